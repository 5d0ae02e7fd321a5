-- What is due for a run: a status, and the report that is written with it, or a short summary.
use Rattle.std.specs.Prelude.{◌≡◌, ℕ, ◌⊎◌, List, Option}
use Rattle.tx_gen.specs.Programs.{listing_of}
use Rattle.tx_journal.specs.Content.{Content}
use Rattle.tx_meaning.specs.Meaning.{meaning}
use Rattle.tx_meaning.specs.Schedules.{planned, round}
use Rattle.tx_report.specs.Report.{report_of, status_of, summary_of}
use Rattle.z_assemble.specs.Whole.{Stands}
use Rattle.listing_answers.specs.Due.{IsRefusal}
use Rattle.run_answers.specs.Runs.{running, usual_turns}
use Rattle.run_answers.specs.Serial.{IsSerialRun}

-- 0 or 6, as every CPU is finished or not, and the report of the planned schedule on the listing's image, which is
-- also that of the events that it prints; it is that of one serial history
pub record IsReport (turns tick : ℕ) (seed : Option ℕ) (input : List ℕ) (status : ℕ) (text : List ℕ) :
    Type 0 where
  pub image : Content
  pub stands : Stands input image
  pub status_is : let m = running image turns tick in status ≡ status_of m (planned m seed)
  pub text_is : let m = running image turns tick in text ≡ report_of m (planned m seed)
  pub printed_is : let m = running image turns tick in
      text ≡ report_of m (meaning m (planned m seed)).events
  pub serial : let m = running image turns tick in IsSerialRun m (planned m seed)

-- the same in short, of the generator's listing for a number, in which the CPUs take turns in the round
pub record IsSummary (number status : ℕ) (text : List ℕ) : Type 0 where
  pub image : Content
  pub stands : Stands (listing_of number) image
  pub status_is : let m = running image usual_turns 0 in status ≡ status_of m (round m)
  pub text_is : let m = running image usual_turns 0 in text ≡ summary_of number m (round m)

-- ---- due to an input

abbrev pub IsDueToRun : ℕ → ℕ → Option ℕ → List ℕ → ℕ → List ℕ → Type 0
IsDueToRun turns tick seed input status text =
    IsRefusal input status text ⊎ IsReport turns tick seed input status text
