-- What commands show of a machine's run.
use Rattle.std.proofs.Common.{◌≡◌, ℕ, ◌<◌, ◌≤◌, List, length, Option, Result, Ok, Err, IfOk, ap, subst, ◌∙◌, inl, inr}
use Rattle.input_parts.specs.Parts.{IsParted, Pieces}
use Rattle.step_text.specs.Replies.{replies_from}
use Rattle.step_words.specs.Commands.{AreCommands, IsFirstBad}
use Rattle.step_words.specs.Words as words
use Rattle.step_words.specs.declared.command.StepCommand.{StepCommand}
use Rattle.tx_journal.specs.Content.{Content}
use Rattle.tx_journal.specs.declared.events.Event.{Event}
use Rattle.run_answers.specs.Machine.{Seen, opened, setting_of, state_of}
use Rattle.tx_meaning.specs.Limits.{Setting}
use Rattle.tx_meaning.specs.Meaning.{meaning}
use Rattle.tx_meaning.specs.Schedules.{planned}
use Rattle.tx_meaning.specs.State.{State}
use Rattle.run_answers.specs.Report.{status_of}
use Rattle.run_answers.specs.Ran.{HasRun}
use Rattle.step_text.specs.Traces.{Traced, at_start}
use Rattle.z_assemble.specs.Whole.{Stands}
use Rattle.z_assemble.specs.Words.{fault_line}
use Rattle.listing_answers.specs.declared.answer.Answer.{Answer}
use Rattle.listing_answers.specs.Due.{IsRefusal, long_fault}
use Rattle.run_answers.specs.Runs.{running}
use Rattle.ztx_answers.specs.Steps.{step_mark, AreReplies, IsDueToParts, IsDueToStep}
use Rattle.run_answers.proofs.Ran.{IsOpened, ran_status}

-- ---- what commands show

-- a run with all the events ahead that a state has recorded
abbrev started : Setting → State → Traced
started m s = record { image = m.image; limits = m.limits; events = s.events; position = 0 }

-- the recorded events of a machine that has run are those of the run
same_start : (m : Setting) (after : Seen) (events : List Event) → setting_of after ≡ m
    → state_of after ≡ meaning m events
    → at_start after.image after.limits after.events ≡ at_start m.image m.limits events
same_start m after events setting state =
    ap (λ (s : State). started (setting_of after) s) state
    ∙ ap (λ (s : Setting). started s (meaning m events)) setting

pub replies_due : (image : Content) (turns tick : ℕ) (seed : Option ℕ) (before after : Seen) (trace : Traced)
    (commands : List StepCommand) (status : ℕ) (out : List ℕ) → IsOpened image turns tick before
    → HasRun before after (planned (setting_of before) seed)
    → trace ≡ at_start after.image after.limits after.events
    → status ≡ status_of (setting_of after) after.events → out ≡ replies_from trace commands
    → (listing text : List ℕ) → Stands listing image → AreCommands (length image.cpus) text commands
    → AreReplies turns tick seed listing text status out
replies_due image turns tick seed before after trace commands status out is ran traced s o listing text stands are =
    let m = running image turns tick in
    let run : HasRun (opened image m.limits) after (planned m seed) =
    subst (λ (b : Seen). HasRun b after (planned (setting_of b) seed)) is ran in
    let start = traced ∙ same_start m after (planned m seed) run.setting run.state in
    record {
      image = image;
      stands = stands;
      commands = commands;
      are = are;
      status_is = s ∙ ran_status m after (planned m seed) run.setting run.state;
      out_is = o ∙ ap (λ (t : Traced). replies_from t commands) start;
    }

-- ---- answers that are there, unless memory ran out

step_is : (turns tick : ℕ) (seed : Option ℕ) (input : List ℕ) (p : Pieces) → length input ≤ 16777216
    → IsParted step_mark input p → (status : ℕ) (out : List ℕ)
    → IsDueToParts turns tick seed p.listing p.behind status out → IsDueToStep turns tick seed input status out
step_is turns tick seed input p short parted status out due = inr record {
  short = short;
  pieces = p;
  parted = parted;
  is_due = due;
}

module _ {E : Type 0} (turns tick : ℕ) (seed : Option ℕ) where
  pub replied : (r : Result Answer E) (image : Content) (text : List ℕ) (commands : List StepCommand)
      → AreCommands (length image.cpus) text commands
      → IfOk r (λ a. (listing text : List ℕ) → Stands listing image → AreCommands (length image.cpus) text commands
      → AreReplies turns tick seed listing text a.status a.text.items)
      → IfOk r (λ a. (listing : List ℕ) → Stands listing image
      → IsDueToParts turns tick seed listing text a.status a.text.items)
  replied (Ok a) image text commands are due =
      λ listing stands. inr (inr (due listing text stands are))
  replied (Err e) image text commands are due = tt

  pub command_refused : (r : Result Answer E) (image : Content) (text : List ℕ) (number : ℕ)
      → IsFirstBad (length image.cpus) text number → IfOk r (λ a. a.status ≡ 5)
      → IfOk r (λ a. a.text.items ≡ words.fault_line number)
      → IfOk r (λ a. (listing : List ℕ) → Stands listing image
      → IsDueToParts turns tick seed listing text a.status a.text.items)
  command_refused (Ok a) image text number first s t = λ listing stands.
      inr (inl (record {
        image = image;
        stands = stands;
        number = number;
        first = first;
        status_is = s;
        out_is = t;
      }))
  command_refused (Err e) image text number first s t = tt

  module _ (input : List ℕ) (p : Pieces) (short : length input ≤ 16777216) (parted : IsParted step_mark input p) where
    pub step_answered : (r : Result Answer E) (image : Content) → Stands p.listing image
        → IfOk r (λ a. (listing : List ℕ) → Stands listing image
        → IsDueToParts turns tick seed listing p.behind a.status a.text.items)
        → IfOk r (λ a. IsDueToStep turns tick seed input a.status a.text.items)
    step_answered (Ok a) image stands due =
        step_is turns tick seed input p short parted a.status a.text.items (due p.listing stands)
    step_answered (Err e) image stands due = tt

    pub step_refused : (r : Result Answer E) → IfOk r (λ a. IsRefusal p.listing a.status a.text.items)
        → IfOk r (λ a. IsDueToStep turns tick seed input a.status a.text.items)
    step_refused (Ok a) refusal = step_is turns tick seed input p short parted a.status a.text.items (inl refusal)
    step_refused (Err e) refusal = tt

  -- of an input with too many bytes
  pub long_step_ok : (r : Result Answer E) → IfOk r (λ a. a.status ≡ 5)
      → IfOk r (λ a. a.text.items ≡ fault_line long_fault)
      → IfOk r (λ a. (input : List ℕ) → 16777216 < length input
      → IsDueToStep turns tick seed input a.status a.text.items)
  long_step_ok (Ok a) s t = λ input long. inl (record { long = long; status_is = s; out_is = t })
  long_step_ok (Err e) s t = tt
