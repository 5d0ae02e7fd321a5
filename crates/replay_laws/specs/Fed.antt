-- What it is for a listing to be given a printed schedule.
use Rattle.std.specs.Prelude.{◌≡◌, ℕ, ◌<◌, ◌≤◌, false, List, ◌++◌, length, Option}
use Rattle.tx_journal.specs.Content.{Content}
use Rattle.tx_journal.specs.Schedule.{schedule_text}
use Rattle.tx_journal.specs.declared.events.Event.{Event}
use Rattle.tx_meaning.specs.Meaning.{meaning}
use Rattle.tx_meaning.specs.Schedules.{planned}
use Rattle.z_reading.specs.Text.{lines_of}
use Rattle.ztx_answers.specs.Runs.{running}

-- the events that a run has recorded, which its report prints
abbrev pub printed_by_run : ℕ → ℕ → Option ℕ → Content → List Event
printed_by_run turns tick seed image =
    let m = running image turns tick in (meaning m (planned m seed)).events

-- The listing gives no schedule, an event was printed, and with the lines of the events at its head the listing is
-- neither too long nor of too many lines.
pub record CanBeFed (input : List ℕ) (image : Content) (events : List Event) : Type 0 where
  pub free : image.scheduled ≡ false
  pub some : 0 < length events
  pub size : length (schedule_text events ++ input) ≤ 16777216
  pub lines : length (lines_of (schedule_text events ++ input)) ≤ 262144
