-- What is due for the command that counts the conflicts of a run, line by line.
use Rattle.std.specs.Prelude.{◌≡◌, ℕ, ◌⊎◌, List, Option}
use Rattle.tx_heat.specs.Heats.{Heated, heat_of}
use Rattle.tx_heat.specs.Text.{heat_text}
use Rattle.tx_heat.specs.Text as printed
use Rattle.tx_journal.specs.Content.{Content}
use Rattle.tx_meaning.specs.Schedules.{planned}
use Rattle.run_answers.specs.Report.{status_of}
use Rattle.z_assemble.specs.Whole.{Stands}
use Rattle.listing_answers.specs.Due.{IsRefusal}
use Rattle.run_answers.specs.Runs.{running}

-- the conflicts of the run of an image with its planned schedule
abbrev pub heat_on : Content → ℕ → ℕ → Option ℕ → Heated
heat_on image turns tick seed =
    let m = running image turns tick in heat_of image m.limits (planned m seed)

-- 0 or 6, as every CPU is finished or not, which is the status of the report of that run and the one that is
-- printed, and the conflicts of the run
pub record IsHeat (turns tick : ℕ) (seed : Option ℕ) (input : List ℕ) (status : ℕ) (text : List ℕ) :
    Type 0 where
  pub image : Content
  pub stands : Stands input image
  pub status_is : let m = running image turns tick in status ≡ status_of m (planned m seed)
  pub printed_is : status ≡ printed.status_of (heat_on image turns tick seed)
  pub text_is : text ≡ heat_text (heat_on image turns tick seed)

-- ---- due to an input

abbrev pub IsDueToHeat : ℕ → ℕ → Option ℕ → List ℕ → ℕ → List ℕ → Type 0
IsDueToHeat turns tick seed input status text =
    IsRefusal input status text ⊎ IsHeat turns tick seed input status text
