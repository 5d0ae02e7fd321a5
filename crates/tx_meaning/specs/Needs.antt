-- The lines that a turn needs, and in which mode.
use Rattle.std.specs.Prelude.{ℕ, ◌+◌, ◌-◌, ◌/◌, Bool, true, ◌&&◌, nat_le, nat_lt, nat_eq}
use Rattle.std.specs.Prelude.{if◌then◌else◌, List, [], ◌∷◌, map, fold, Option, Some, None}
use Rattle.std.specs.List.{list_any, flat_map, range_with_len}
use Rattle.z_regs.specs.Absolute.{absolute_ranges}
use Rattle.z_regs.specs.Rising.{with_number}
use Rattle.z_regs.specs.declared.ranges.Range.{Range}
use Rattle.z_regs.specs.declared.waiting.Waiting.{Waiting}
use Rattle.interrogate.specs.Sizes.{line_size}
use Rattle.line_table.specs.declared.table.Mode.{Mode}
use Rattle.line_table.specs.declared.table.Mode.TheVariants.{Shared, Exclusive}
use Rattle.tx_serial.specs.Flat.{Pending}
use Rattle.tx_meaning.specs.declared.asking.Need.{Need}
use Rattle.tx_serial.specs.Apply.{identification, old_psw, new_psw, interruption_block}

-- ---- the lines of ranges by absolute addresses

abbrev pub first_line : Range → ℕ
first_line r = r.first / line_size

abbrev pub last_line : Range → ℕ
last_line r = (r.first + r.length - 1) / line_size

abbrev pub has_line : ℕ → Range → Bool
has_line line r = nat_lt 0 r.length && (nat_le (first_line r) line && nat_le line (last_line r))

abbrev pub lines_of : Range → List ℕ
lines_of r = lines_by r.length
  where
    lines_by : ℕ → List ℕ
    lines_by n = if nat_eq n 0 then [] else range_with_len (first_line r) (last_line r + 1 - first_line r)

-- in rising order, each once
abbrev pub rising : List ℕ → List ℕ
rising numbers = fold with_number [] numbers

-- exclusively, where a byte of the line is stored
abbrev pub mode_for : List Range → ℕ → Mode
mode_for ranges line = if list_any (λ r. r.store && has_line line r) ranges then Exclusive else Shared

-- the lines of ranges, in rising order
unfoldable pub needs_of : List Range → List Need
needs_of ranges = map (λ line. record { line = line; mode = mode_for ranges line })
    (rising (flat_map lines_of ranges))

-- ---- what is needed

-- for the operands of an instruction, by real addresses
abbrev pub operand_needs : Option ℕ → List Range → List Need
operand_needs prefix ranges = needs_of (absolute_ranges prefix ranges)

abbrev pub stored : ℕ → ℕ → Range
stored first length = record { first = first; length = length; store = true }

-- to store a diagnostic block
abbrev pub block_needs : Option ℕ → Pending → List Need
block_needs prefix b = operand_needs prefix (stored b.address 256 ∷ [])

-- to take an interruption: its identification, the old program status word and the new one, and the block
-- where a transaction was aborted
abbrev pub interruption_ranges : Option (List ℕ) → List Range
interruption_ranges None = stored identification 4 ∷ stored old_psw 16 ∷ stored new_psw 16 ∷ []
interruption_ranges (Some block) =
    stored identification 4 ∷ stored old_psw 16 ∷ stored new_psw 16 ∷ stored interruption_block 256 ∷ []

abbrev pub interruption_needs : Option ℕ → Waiting → List Need
interruption_needs prefix w = operand_needs prefix (interruption_ranges w.block)
