-- What is due to a listing with commands that look at its run, forward and back.
use Rattle.std.specs.Prelude.{◌≡◌, ℕ, ◌<◌, ◌≤◌, ◌⊎◌, List, Option, length, codes}
use Rattle.input_parts.specs.Parts.{IsParted, Pieces}
use Rattle.step_text.specs.Replies.{replies_from}
use Rattle.step_words.specs.Commands.{AreCommands, IsFirstBad}
use Rattle.step_words.specs.Words as words
use Rattle.step_words.specs.declared.command.StepCommand.{StepCommand}
use Rattle.tx_journal.specs.Content.{Content}
use Rattle.tx_meaning.specs.Schedules.{planned}
use Rattle.run_answers.specs.Report.{status_of}
use Rattle.step_text.specs.Traces.{Traced, at_start}
use Rattle.z_assemble.specs.Whole.{Stands}
use Rattle.z_assemble.specs.Words.{fault_line}
use Rattle.listing_answers.specs.Due.{IsRefusal, long_fault}
use Rattle.run_answers.specs.Runs.{running}

-- the line between a listing and the commands
abbrev pub step_mark : List ℕ
step_mark = codes "ZTX STEP"

-- the run of an image with its planned schedule, all of its events ahead
abbrev pub run_of : Content → ℕ → ℕ → Option ℕ → Traced
run_of image turns tick seed =
    let m = running image turns tick in at_start image m.limits (planned m seed)

-- 0 or 6, as every CPU is finished or not behind the whole run, and what the commands show of it, one after the
-- other: at each position what the events behind it mean
pub record AreReplies (turns tick : ℕ) (seed : Option ℕ) (listing text : List ℕ) (status : ℕ) (out : List ℕ) :
    Type 0 where
  pub image : Content
  pub stands : Stands listing image
  pub commands : List StepCommand
  pub are : AreCommands (length image.cpus) text commands
  pub status_is : let m = running image turns tick in status ≡ status_of m (planned m seed)
  pub out_is : out ≡ replies_from (run_of image turns tick seed) commands

-- a line of the commands is none: 5, and the first such line
pub record IsBadCommand (listing text : List ℕ) (status : ℕ) (out : List ℕ) : Type 0 where
  pub image : Content
  pub stands : Stands listing image
  pub number : ℕ
  pub first : IsFirstBad (length image.cpus) text number
  pub status_is : status ≡ 5
  pub out_is : out ≡ words.fault_line number

-- the input has too many bytes: 5, and the line of that fault
pub record IsLongStep (input : List ℕ) (status : ℕ) (out : List ℕ) : Type 0 where
  pub long : 16777216 < length input
  pub status_is : status ≡ 5
  pub out_is : out ≡ fault_line long_fault

-- ---- due to an input

-- to a listing and commands: the listing is looked at first
abbrev pub IsDueToParts : ℕ → ℕ → Option ℕ → List ℕ → List ℕ → ℕ → List ℕ → Type 0
IsDueToParts turns tick seed listing text status out =
    IsRefusal listing status out
    ⊎ (IsBadCommand listing text status out ⊎ AreReplies turns tick seed listing text status out)

-- to an input that has not too many bytes: the commands stand behind the first line that is the mark; without it there
-- are none
pub record IsStep (turns tick : ℕ) (seed : Option ℕ) (input : List ℕ) (status : ℕ) (out : List ℕ) : Type 0 where
  pub short : length input ≤ 16777216
  pub pieces : Pieces
  pub parted : IsParted step_mark input pieces
  pub is_due : IsDueToParts turns tick seed pieces.listing pieces.behind status out

abbrev pub IsDueToStep : ℕ → ℕ → Option ℕ → List ℕ → ℕ → List ℕ → Type 0
IsDueToStep turns tick seed input status out =
    IsLongStep input status out ⊎ IsStep turns tick seed input status out
