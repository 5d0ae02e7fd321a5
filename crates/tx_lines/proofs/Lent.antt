-- Lines that are given to a run one after the other.
use Rattle.std.proofs.Common.{ℕ, Option, None}
use Rattle.std.specs.Prelude.{nat_lt, if◌then◌else◌}
use Rattle.line_table.specs.declared.table.Mode.{Mode}

-- those of the lines that lie below one
abbrev pub under : ℕ → (ℕ → Option Mode) → ℕ → Option Mode
under from held line = if nat_lt line from then held line else None
