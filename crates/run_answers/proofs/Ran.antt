-- What a machine that has run gives: its report, its status and its summary are those of the run's events.
use Rattle.std.proofs.Common.{◌≡◌, ◌∙◌, ℕ, Bool, true, false, List, Option, sym, ap, subst, inl, inr, refl}
use Rattle.std.specs.Prelude.{if◌then◌else◌}
use Rattle.std.specs.List.{list_all}
use Rattle.report_text.specs.Report as text
use Rattle.report_text.specs.Shown.{ShownCpu}
use Rattle.report_text.specs.Summary.{summary_text}
use Rattle.tx_gen.specs.Programs.{listing_of}
use Rattle.tx_journal.specs.Content.{Content}
use Rattle.tx_journal.specs.declared.events.Event.{Event}
use Rattle.tx_report.specs.Machine.{Seen, opened, setting_of, state_of}
use Rattle.tx_meaning.specs.Limits.{Setting}
use Rattle.tx_meaning.specs.Meaning.{meaning}
use Rattle.tx_meaning.specs.Schedules.{planned, round}
use Rattle.tx_meaning.specs.State.{State}
use Rattle.tx_report.specs.Report.{report_of, status_of, summary_of, counters_in}
use Rattle.tx_report.specs.Shown.{shown_in, cpus_shown}
use Rattle.tx_schedule.specs.Ran.{HasRun}
use Rattle.z_assemble.specs.Whole.{Stands}
use Rattle.listing_answers.specs.Due.{IsStatus}
use Rattle.run_answers.specs.Reports.{IsReport, IsSummary}
use Rattle.run_answers.specs.Runs.{AreLimits, running, usual_turns}
use Rattle.z_assemble.proofs.Images.{stands_for_image}
use Rattle.run_answers.proofs.Plans.{planned_known}
use Rattle.run_answers.proofs.Printed.{printed}
use Rattle.run_answers.proofs.Serials.{serial_run}
use Rattle.run_answers.proofs.Settings.{may_run}

-- ---- what is shown depends on what the events mean

status_same : (m : Setting) (before after : List Event) → meaning m before ≡ meaning m after
    → status_of m before ≡ status_of m after
unfolding status_of
status_same m before after same = ap (λ (s : State). text.status_of (cpus_shown m s)) same

report_same : (m : Setting) (before after : List Event) → meaning m before ≡ meaning m after
    → report_of m before ≡ report_of m after
unfolding report_of
report_same m before after same = ap (λ (s : State). text.report_text (shown_in m s)) same

summary_same : (number : ℕ) (m : Setting) (before after : List Event) → meaning m before ≡ meaning m after
    → summary_of number m before ≡ summary_of number m after
unfolding summary_of
summary_same number m before after same =
    ap (λ (s : State). summary_text number (cpus_shown m s) (counters_in number m s)) same

-- ---- a machine that has run

module _ (m : Setting) (after : Seen) (events : List Event) (setting : setting_of after ≡ m)
    (state : state_of after ≡ meaning m events) where
  means : meaning (setting_of after) after.events ≡ meaning (setting_of after) events
  means = state ∙ ap (λ (s : Setting). meaning s events) (sym setting)

  pub ran_status : status_of (setting_of after) after.events ≡ status_of m events
  ran_status =
      status_same (setting_of after) after.events events means
      ∙ ap (λ (s : Setting). status_of s events) setting

  ran_report : report_of (setting_of after) after.events ≡ report_of m events
  ran_report =
      report_same (setting_of after) after.events events means
      ∙ ap (λ (s : Setting). report_of s events) setting

  ran_summary : (number : ℕ) → summary_of number (setting_of after) after.events ≡ summary_of number m events
  ran_summary number =
      summary_same number (setting_of after) after.events events means
      ∙ ap (λ (s : Setting). summary_of number s events) setting

-- the machine was opened for a run of an image
abbrev pub IsOpened : Content → ℕ → ℕ → Seen → Type 0
IsOpened image turns tick before = before ≡ opened image (running image turns tick).limits

pub report_due : (image : Content) (turns tick : ℕ) (seed : Option ℕ) (before after : Seen) (input : List ℕ)
    (status : ℕ) (text : List ℕ) → AreLimits turns tick → IsOpened image turns tick before
    → HasRun before after (planned (setting_of before) seed)
    → status ≡ status_of (setting_of after) after.events → text ≡ report_of (setting_of after) after.events
    → Stands input image → IsReport turns tick seed input status text
report_due image turns tick seed before after input status text limits is ran s t stands =
    let m = running image turns tick in
    let run : HasRun (opened image m.limits) after (planned m seed) =
    subst (λ (b : Seen). HasRun b after (planned (setting_of b) seed)) is ran in
    let sound = stands_for_image input image stands in
    record {
      image = image;
      stands = stands;
      status_is = s ∙ ran_status m after (planned m seed) run.setting run.state;
      text_is = t ∙ ran_report m after (planned m seed) run.setting run.state;
      printed_is = t ∙ ran_report m after (planned m seed) run.setting run.state ∙ printed m (planned m seed);
      serial = serial_run m (may_run image turns tick sound limits) (planned m seed)
          (planned_known m seed sound);
    }

pub summary_due : (number : ℕ) (image : Content) (before after : Seen) (status : ℕ) (text : List ℕ)
    → IsOpened image usual_turns 0 before → HasRun before after (round (setting_of before))
    → status ≡ status_of (setting_of after) after.events
    → text ≡ summary_of number (setting_of after) after.events
    → Stands (listing_of number) image → IsSummary number status text
summary_due number image before after status text is ran s t stands =
    let m = running image usual_turns 0 in
    let run : HasRun (opened image m.limits) after (round m) =
    subst (λ (b : Seen). HasRun b after (round (setting_of b))) is ran in
    record {
      image = image;
      stands = stands;
      status_is = s ∙ ran_status m after (round m) run.setting run.state;
      text_is = t ∙ ran_summary m after (round m) run.setting run.state number;
    }

-- ---- statuses

zero_or_six : (finished : Bool) → IsStatus (if finished then 0 else 6)
zero_or_six true = inl refl
zero_or_six false = inr (inr refl)

status_ends : (m : Setting) (events : List Event) → IsStatus (status_of m events)
unfolding status_of
status_ends m events = zero_or_six (list_all (λ (c : ShownCpu). c.finished) (cpus_shown m (meaning m events)))

pub is_status : (status : ℕ) (m : Setting) (events : List Event) → status ≡ status_of m events
    → IsStatus status
is_status status m events is = subst IsStatus (sym is) (status_ends m events)
