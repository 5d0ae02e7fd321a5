-- What a machine that has raced gives: the report of the events that it has recorded.
use Rattle.std.proofs.Common.{◌≡◌, ℕ, ◌<◌, List, length, sym, ap, ◌∙◌, subst, arith, inl, Result, IfOk}
use Rattle.std.specs.Prelude.{All, count_by}
use Rattle.tx_journal.specs.Content.{Content}
use Rattle.tx_journal.specs.Image.{IsImage, cpu_of_event}
use Rattle.tx_report.specs.Machine.{Seen, setting_of, state_of}
use Rattle.tx_meaning.specs.Limits.{Setting}
use Rattle.tx_meaning.specs.Meaning.{IsSetting, meaning, is_external}
use Rattle.tx_meaning.specs.Schedules.{IsComplete}
use Rattle.tx_report.specs.Report.{report_of, status_of}
use Rattle.z_assemble.specs.Words.{fault_line}
use Rattle.z_assemble.proofs.Images.{stands_for_image}
use Rattle.listing_answers.specs.declared.answer.Answer.{Answer}
use Rattle.listing_answers.specs.Due.{long_fault}
use Rattle.run_answers.specs.Races.{IsRaceReport, IsDueToRace, MayRace, HasRaced, racing}
use Rattle.run_answers.specs.Runs.{AreLimits}
use Rattle.listing_answers.proofs.Long.{long_listing}
use Rattle.listing_answers.proofs.Given.{both}
use Rattle.run_answers.proofs.Serials.{serial_run}

-- ---- before a race

-- the line of the fault of an input that is too long
pub long_race_ok : {E : Type 0} (r : Result Answer E) → IfOk r (λ a. a.status ≡ 5)
    → IfOk r (λ a. a.text.items ≡ fault_line long_fault)
    → IfOk r (λ a. (turns tick : ℕ) (input : List ℕ) → 16777216 < length input
    → IsDueToRace turns tick input a.status a.text.items)
long_race_ok r s t = both r
    (λ a s t. λ turns tick input long. inl (long_listing input a.status a.text.items long s t)) s t

-- ---- behind a race

pub has_raced : (turns tick : ℕ) (input : List ℕ) (before after : Seen) → MayRace turns tick input before
    → setting_of after ≡ setting_of before → count_by is_external after.events ≡ 0
    → IsComplete (setting_of after) after.events → HasRaced turns tick input after
has_raced turns tick input before after may same alone complete = record {
  image = may.image;
  stands = may.stands;
  setting = same ∙ ap setting_of may.is;
  turns_alone = alone;
  complete = complete;
}

module _ (image : Content) (turns tick : ℕ) (is : IsImage image) (limits : AreLimits turns tick) where
  may_race : IsSetting (racing image turns tick)
  may_race = record {
    image = is;
    limits = record {
      some_turn = limits.0;
      few_turns = limits.1;
      few_ticks = limits.2;
      few_externals = omega arith;
    };
  }

pub raced_due : (turns tick : ℕ) (input : List ℕ) (machine : Seen) (status : ℕ) (text : List ℕ)
    → AreLimits turns tick → HasRaced turns tick input machine
    → machine.events ≡ (state_of machine).events
    → All (λ e. cpu_of_event e < length machine.image.cpus) machine.events
    → status ≡ status_of (setting_of machine) machine.events
    → text ≡ report_of (setting_of machine) machine.events
    → IsRaceReport turns tick input status text
raced_due turns tick input machine status text limits raced meant known s t =
    let m = racing raced.image turns tick in
    let events = machine.events in
    let among = subst (λ (n : Setting). All (λ e. cpu_of_event e < length n.image.cpus) events) raced.setting known in
    record {
      image = raced.image;
      stands = raced.stands;
      events = events;
      recorded = sym (meant ∙ ap (λ (n : Setting). (meaning n events).events) raced.setting);
      turns_alone = raced.turns_alone;
      known = among;
      complete = subst (λ (n : Setting). IsComplete n events) raced.setting raced.complete;
      status_is = s ∙ ap (λ (n : Setting). status_of n events) raced.setting;
      text_is = t ∙ ap (λ (n : Setting). report_of n events) raced.setting;
      serial = serial_run m
          (may_race raced.image turns tick (stands_for_image input raced.image raced.stands) limits) events among;
    }
