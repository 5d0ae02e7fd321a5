-- The exclusive holder of each line, kept beside a table of holders.
use Rattle.std.specs.Prelude.{◌≡◌, ℕ, ◌+◌, ◌^◌, ◌<◌, List, Option, None, Some, length, get_or}
use Rattle.line_table.specs.Sizes.{storage_lines}
use Rattle.line_table.specs.Holders.{Holdings, mode_in}
use Rattle.line_copies.specs.Coherence.{exclusive_holder}

-- a CPU counted from 1, or 0 for none
abbrev pub number_of : Option ℕ → ℕ
number_of None = 0
number_of (Some cpu) = cpu + 1

-- for each line the number of the CPU that the table has as its exclusive holder, and all numbers fit 32 bits
pub record AreExclusive (table : Holdings) (exclusive : List ℕ) : Type 0 where
  pub few : table.cpus < 2 ^ 32
  pub size : length exclusive ≡ storage_lines
  pub each : (line : ℕ) → line < storage_lines
      → get_or exclusive line 0 ≡ number_of (exclusive_holder table.cpus (λ cpu. mode_in table cpu line))
