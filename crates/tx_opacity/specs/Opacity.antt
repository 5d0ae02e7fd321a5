-- What a live attempt sees, across an event.
use Rattle.std.specs.Prelude.{◌≡◌, ℕ, true}
use Rattle.tx_serial.specs.Run.{run}
use Rattle.tx_meaning.specs.Limits.{Setting}
use Rattle.tx_meaning.specs.State.{State, is_live, attempt_of, flat_of}
use Rattle.tx_meaning.specs.Views.{IsSameView}

-- each attempt that goes on, whether it has completed an instruction more or not: so many instructions as it had
-- completed before show the same on the storage behind as on the storage before
abbrev pub SeesOneRun : Setting → State → State → Type 0
SeesOneRun m before after =
    (i : ℕ) → is_live before i ≡ true → is_live after i ≡ true
    → (after.numbers i).attempts ≡ (before.numbers i).attempts
    → IsSameView (attempt_of m before i) (run (flat_of m after) i (before.numbers i).completed)
