-- What it is for a listing to take a printed schedule.
use Rattle.std.specs.Prelude.{◌≡◌, ℕ, ◌<◌, ◌≤◌, true, false, List, ◌++◌, length, All}
use Rattle.tx_journal.specs.Content.{Content}
use Rattle.tx_journal.specs.Image.{cpu_of_event}
use Rattle.tx_journal.specs.Schedule.{schedule_text}
use Rattle.tx_journal.specs.declared.events.Event.{Event}
use Rattle.z_reading.specs.Text.{lines_of}
use Rattle.z_assemble.specs.Whole.{Stands}

-- the image with this schedule as its own
abbrev pub with_schedule : List Event → Content → Content
with_schedule events image = record image { schedule = events; scheduled = true }

-- The listing stands for an image and gives no schedule. There is an event, each is of a CPU of the image, and
-- with the lines of the events at its head the listing is neither too long nor of too many lines.
pub record MayTake (text : List ℕ) (image : Content) (events : List Event) : Type 0 where
  pub stands : Stands text image
  pub free : image.scheduled ≡ false
  pub some : 0 < length events
  pub few : length events ≤ 4194304
  pub known : All (λ e. cpu_of_event e < length image.cpus) events
  pub size : length (schedule_text events ++ text) ≤ 16777216
  pub lines : length (lines_of (schedule_text events ++ text)) ≤ 262144
