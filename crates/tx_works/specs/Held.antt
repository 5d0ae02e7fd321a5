-- Lines that a CPU holds as they are needed, by the mode in which it holds each line.
use Rattle.std.specs.Prelude.{◌≡◌, ℕ, true, All, List, Option, if◌then◌else◌}
use Rattle.z_regs.specs.declared.ranges.Range.{Range}
use Rattle.line_table.specs.declared.table.Mode.{Mode}
use Rattle.line_table.specs.declared.table.Mode.TheVariants.{Shared, Exclusive}
use Rattle.interrogate.specs.Places.{has_place}
use Rattle.interrogate.specs.Sizes.{line_size}
use Rattle.tx_meaning.specs.Asking.{is_there}
use Rattle.tx_meaning.specs.declared.asking.Need.{Need}

-- each line that has a byte of the range is held as the range needs it
pub record IsHeld (modes : ℕ → Option Mode) (r : Range) : Type 0 where
  pub each : (line : ℕ) → has_place line_size r line ≡ true
      → is_there (if r.store then Exclusive else Shared) (modes line) ≡ true

-- all that is needed is there
abbrev pub AreThere : (ℕ → Option Mode) → List Need → Type 0
AreThere modes needs = All (λ need. is_there need.mode (modes need.line) ≡ true) needs
