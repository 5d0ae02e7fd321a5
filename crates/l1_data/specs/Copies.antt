-- Copies of lines.
use Rattle.std.specs.Prelude.{◌≡◌, ℕ, ◌+◌, ◌<◌, ◌≤◌, ◌==◌, if◌then◌else◌, List, [], ◌++◌, length, take, drop}
use Rattle.std.specs.Prelude.{Option, None, is_some, IfSome, slice_get}
use Rattle.std.specs.List.{slice_index_or}
use Rattle.std.specs.Option.{option_and_then, option_map}
use Rattle.bit_set.specs.Counts.{count_below}
use Rattle.slot_index.specs.Slots.{Slots, slot_in}
use Rattle.l1_data.specs.Sizes.{storage_lines, line_size, copy_limit}

-- the bytes of the copy of each line that has one
abbrev pub Copies : Type 0
Copies = ℕ → Option (List ℕ)

abbrev pub no_copies : Copies
no_copies line = None

-- the copies changed for one line
abbrev pub with_copy : Copies → ℕ → Option (List ℕ) → Copies
with_copy copies line copy l = if l == line then copy else copies l

-- how many lines have a copy
abbrev pub copy_count : Copies → ℕ
copy_count copies = count_below storage_lines (λ line. is_some (copies line))

-- a byte of the copy of a line
abbrev pub byte_in : Copies → ℕ → ℕ → Option ℕ
byte_in copies line at = option_and_then (λ copy. slice_get copy at) (copies line)

-- the bytes of a copy with others from a place on
abbrev pub laid : List ℕ → ℕ → List ℕ → List ℕ
laid copy at bytes = take at copy ++ bytes ++ drop (at + length bytes) copy

-- copies are of lines of storage and have a line's bytes, and there are not too many
pub record IsSound (copies : Copies) : Type 0 where
  pub few : copy_count copies ≤ copy_limit
  pub in_storage : (line : ℕ) → storage_lines ≤ line → copies line ≡ None
  pub sized : (line : ℕ) → IfSome (copies line) (λ copy. length copy ≡ line_size)

-- copies as data: the lines that have one, and for each of them in order the copy; what follows is of no
-- account
pub record Kept : Type 0 where
  pub lines : List ℕ
  pub copies : List (List ℕ)

unfoldable pub copies_of : Kept → Copies
copies_of kept line = option_map (λ slot. slice_index_or kept.copies slot []) (slot_in kept.lines line)

-- room for all copies, each of a line's size
pub record IsKept (index : Slots) (copies : List (List ℕ)) : Type 0 where
  pub limit : index.limit ≡ storage_lines
  pub most : index.most ≡ copy_limit
  pub room : length copies ≡ copy_limit
  pub sized : (slot : ℕ) → slot < copy_limit → length (slice_index_or copies slot []) ≡ line_size
