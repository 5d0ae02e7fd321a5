-- How a listing is raced, and what is due then.
use Rattle.std.specs.Prelude.{◌≡◌, ℕ, ◌<◌, ◌⊎◌, List, length, count_by, All}
use Rattle.tx_journal.specs.Content.{Content}
use Rattle.tx_journal.specs.Image.{cpu_of_event}
use Rattle.tx_journal.specs.declared.events.Event.{Event}
use Rattle.tx_report.specs.Machine.{Seen, opened, setting_of}
use Rattle.tx_meaning.specs.Limits.{Setting}
use Rattle.tx_meaning.specs.Meaning.{meaning, is_external}
use Rattle.tx_meaning.specs.Schedules.{IsComplete}
use Rattle.tx_report.specs.Report.{report_of, status_of}
use Rattle.z_assemble.specs.Whole.{Stands}
use Rattle.run_answers.specs.declared.raced.NoRace.{NoRace}
use Rattle.run_answers.specs.declared.raced.NoRace.TheVariants.{Memory, Refused}
use Rattle.listing_answers.specs.Due.{IsRefusal}
use Rattle.run_answers.specs.Serial.{IsSerialRun}

-- so many counted turns for each CPU, this time between two ticks, and no interruption from outside
abbrev pub racing : Content → ℕ → ℕ → Setting
racing image turns tick =
    record { image = image; limits = record { turns = turns; tick = tick; externals = 0 } }

-- 0 or 6, as every CPU is finished or not, and the report of a list of events on the listing's image. The list is
-- the one that the report prints: turns alone, of CPUs that there are, behind which none is ready. It is that of one
-- serial history
pub record IsRaceReport (turns tick : ℕ) (input : List ℕ) (status : ℕ) (text : List ℕ) : Type 0 where
  pub image : Content
  pub stands : Stands input image
  pub events : List Event
  pub recorded : (meaning (racing image turns tick) events).events ≡ events
  pub turns_alone : count_by is_external events ≡ 0
  pub known : All (λ e. cpu_of_event e < length image.cpus) events
  pub complete : IsComplete (racing image turns tick) events
  pub status_is : status ≡ status_of (racing image turns tick) events
  pub text_is : text ≡ report_of (racing image turns tick) events
  pub serial : IsSerialRun (racing image turns tick) events

abbrev pub IsDueToRace : ℕ → ℕ → List ℕ → ℕ → List ℕ → Type 0
IsDueToRace turns tick input status text =
    IsRefusal input status text ⊎ IsRaceReport turns tick input status text

-- ---- machines

-- a machine of the listing, from which nothing has happened
pub record MayRace (turns tick : ℕ) (input : List ℕ) (machine : Seen) : Type 0 where
  pub image : Content
  pub stands : Stands input image
  pub is : machine ≡ opened image (racing image turns tick).limits

-- the same behind a race
pub record HasRaced (turns tick : ℕ) (input : List ℕ) (machine : Seen) : Type 0 where
  pub image : Content
  pub stands : Stands input image
  pub setting : setting_of machine ≡ racing image turns tick
  pub turns_alone : count_by is_external machine.events ≡ 0
  pub complete : IsComplete (setting_of machine) machine.events

-- why there is no such machine
abbrev pub IsNoRace : List ℕ → NoRace → Type 0
IsNoRace input Memory = Unit {0}
IsNoRace input (Refused answer) = IsRefusal input answer.status answer.text.items
