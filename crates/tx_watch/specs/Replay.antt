-- A run that is made once more.
use Rattle.std.specs.Prelude.{◌≡◌, ℕ, take}
use Rattle.tx_meaning.specs.Meaning.{meaning}
use Rattle.tx_step.specs.Machine.{Seen, setting_of, state_of}

-- the first so many recorded events of a machine have happened to another one
pub record Replays (machine : Seen) (k : ℕ) (replay : Seen) : Type 0 where
  pub setting : setting_of replay ≡ setting_of machine
  pub recorded : replay.events ≡ (state_of replay).events
  pub state : state_of replay ≡ meaning (setting_of machine) (take k machine.events)
