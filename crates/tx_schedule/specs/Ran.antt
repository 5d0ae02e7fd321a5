-- What a run by a schedule makes of a machine.
use Rattle.std.specs.Prelude.{◌≡◌, ℕ, ◌<◌, ◌≤◌, false, List, [], length, count_by}
use Rattle.tx_journal.specs.declared.events.Event.{Event}
use Rattle.tx_meaning.specs.Idle.{is_ready}
use Rattle.tx_meaning.specs.Meaning.{meaning, is_external}
use Rattle.tx_machine.specs.Machine.{Seen, setting_of, state_of}

-- nothing has happened yet, and as many interruptions from outside may come as the listing's schedule has
pub record MayRun (machine : Seen) : Type 0 where
  pub unused : machine.events ≡ []
  pub externals : count_by is_external machine.image.schedule ≤ machine.limits.externals

-- the same image and limits, and all that is shown is what these events mean
pub record HasRun (before after : Seen) (events : List Event) : Type 0 where
  pub setting : setting_of after ≡ setting_of before
  pub state : state_of after ≡ meaning (setting_of before) events

-- the next turn of every CPU would be idle
abbrev pub HasNoneReady : Seen → Type 0
HasNoneReady machine =
    (i : ℕ) → i < length machine.image.cpus → is_ready (setting_of machine) (state_of machine) i ≡ false
