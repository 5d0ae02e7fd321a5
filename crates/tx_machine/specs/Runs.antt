-- The runs that a machine has, one for each CPU.
use Rattle.std.specs.Prelude.{◌≡◌, ℕ, Bool, true, false, List, get_or}
use Rattle.tx_machine.specs.declared.runs.Place.{Place}
use Rattle.tx_machine.specs.declared.runs.Place.TheVariants as place

abbrev pub is_away : Place → Bool
is_away (place.Reserved room) = false
is_away (place.Here r) = false
is_away place.Away = true

-- the run at a place, or the memory for it, is of the CPU of this number
abbrev pub IsOf : ℕ → Place → Type 0
IsOf i (place.Reserved room) = room.1 ≡ i
IsOf i (place.Here r) = r.cpu ≡ i
IsOf i place.Away = Unit {0}

-- each place is of the CPU of its number
pub record AreOwn (places : List Place) : Type 0 where
  pub each : (i : ℕ) → IsOf i (get_or places i place.Away)
