-- More numbers among rising ones, and how ranges need a line.
use Rattle.std.specs.Prelude.{ℕ, List, fold}
use Rattle.z_regs.specs.Rising.{with_number}
use Rattle.z_regs.specs.declared.ranges.Range.{Range}
use Rattle.tx_meaning.specs.declared.asking.Need.{Need}
use Rattle.tx_meaning.specs.Needs.{mode_for}

-- more numbers in their places
abbrev pub with_numbers : List ℕ → List ℕ → List ℕ
with_numbers rising numbers = fold with_number rising numbers

-- how ranges need a line
abbrev pub need_at : List Range → ℕ → Need
need_at ranges line = record { line = line; mode = mode_for ranges line }
