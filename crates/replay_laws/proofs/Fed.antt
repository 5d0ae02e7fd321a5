-- A listing that is given a printed schedule makes the report that printed it.
use Rattle.std.proofs.Common.{◌≡◌, ℕ, ◌+◌, ◌<◌, ◌≤◌, Bool, true, false, List, ◌++◌, length, Option, refl, sym, ap, ◌∙◌}
use Rattle.std.proofs.Common.{subst, arith}
use Rattle.std.specs.Prelude.{All, count_by, if◌then◌else◌}
use Rattle.tx_journal.specs.Content.{Content}
use Rattle.tx_journal.specs.Image.{IsImage, cpu_of_event}
use Rattle.tx_journal.specs.Schedule.{schedule_text}
use Rattle.tx_journal.specs.declared.events.Event.{Event}
use Rattle.report_text.specs.Report as text
use Rattle.tx_meaning.specs.Limits.{Setting}
use Rattle.tx_meaning.specs.Meaning.{meaning, is_external}
use Rattle.tx_meaning.specs.Schedules.{planned, planned_by}
use Rattle.tx_meaning.specs.State.{State, cpus_of}
use Rattle.tx_meaning.specs.Views.{AreKnown}
use Rattle.tx_headline.proofs.Recorded.{recorded_mean}
use Rattle.ztx_answers.specs.Report.{report_of, status_of}
use Rattle.ztx_answers.specs.Shown.{shown_in, cpus_shown}
use Rattle.z_assemble.specs.Whole.{Stands}
use Rattle.z_assemble.proofs.Images.{stands_for_image}
use Rattle.ztx_answers.specs.Reports.{IsReport}
use Rattle.ztx_answers.specs.Races.{IsRaceReport, racing}
use Rattle.ztx_answers.specs.Runs.{AreLimits, running, externals_in}
use Rattle.ztx_answers.proofs.Answered.{reports}
use Rattle.ztx_answers.proofs.Plans.{planned_known}
use Rattle.schedule_laws.specs.Taken.{with_schedule}
use Rattle.schedule_laws.proofs.Whole.{taken}
use Rattle.replay_laws.specs.Fed.{CanBeFed, printed_by_run}
use Rattle.replay_laws.proofs.Apart.{but_for, meaning_same, cpus_same, all_same}
use Rattle.replay_laws.proofs.Recorded.{recorded_known, none_planned, few_recorded}

-- the report and the status of recorded events, where the image gives them as its schedule
module _ (count : ℕ) (m : Setting) (es : List Event) where
  abbrev recorded : List Event
  recorded = (meaning m es).events

  abbrev fed : Setting
  fed = but_for recorded count m

  means_same : meaning fed recorded ≡ meaning m es
  means_same = meaning_same recorded count m recorded ∙ recorded_mean m es

  pub same_status : status_of fed recorded ≡ status_of m es
  unfolding status_of
  same_status =
      ap (λ (s : State). text.status_of (cpus_shown fed s)) means_same
      ∙ ap text.status_of (cpus_same recorded count m (meaning m es))

  pub same_report : report_of fed recorded ≡ report_of m es
  unfolding report_of
  same_report =
      ap (λ (s : State). text.report_text (shown_in fed s)) means_same
      ∙ ap text.report_text (all_same recorded count m (meaning m es))

module _ (turns tick : ℕ) (limits : AreLimits turns tick) (input : List ℕ) (image : Content)
    (stands : Stands input image) (externals : ℕ) (es : List Event) where
  abbrev m : Setting
  m = record { image = image; limits = record { turns = turns; tick = tick; externals = externals } }

  again : AreKnown m es → count_by is_external es ≡ 0 → CanBeFed input image (meaning m es).events
      → (other : Option ℕ) (status : ℕ) (report : List ℕ) → status ≡ status_of m es → report ≡ report_of m es
      → IsReport turns tick other (schedule_text (meaning m es).events ++ input) status report
  again known none can other status report status_is report_is =
      subst (λ (s : ℕ). IsReport turns tick other text_fed s report) (sym (status_is ∙ sym (same_status count m es)))
      (subst (λ (r : List ℕ). IsReport turns tick other text_fed (status_of fed_setting events) r)
      (sym (report_is ∙ sym (same_report count m es)))
      (reports turns tick other limits text_fed (with_schedule events image) fed_stands))
    where
      is : IsImage image
      is = stands_for_image input image stands

      events : List Event
      events = (meaning m es).events

      text_fed : List ℕ
      text_fed = schedule_text events ++ input

      count : ℕ
      count = externals_in (with_schedule events image)

      fed_setting : Setting
      fed_setting = but_for events count m

      fed_stands : Stands text_fed (with_schedule events image)
      fed_stands = taken input image events (record {
        stands = stands;
        free = can.free;
        some = can.some;
        few = few_recorded m es known none is.few_cpus limits.1;
        known = recorded_known m es known;
        size = can.size;
        lines = can.lines;
      })

-- ---- runs

unscheduled : (m : Setting) (seed : Option ℕ) → m.image.scheduled ≡ false → planned m seed ≡ planned_by seed m
unscheduled m seed is = ap (λ (b : Bool). if b then m.image.schedule else planned_by seed m) is

pub run_again : (turns tick : ℕ) (seed other : Option ℕ) (input : List ℕ) (status : ℕ) (report : List ℕ)
    → AreLimits turns tick → (r : IsReport turns tick seed input status report)
    → CanBeFed input r.image (printed_by_run turns tick seed r.image)
    → IsReport turns tick other (schedule_text (printed_by_run turns tick seed r.image) ++ input) status report
run_again turns tick seed other input status report limits r can =
    let m = running r.image turns tick in
    again turns tick limits input r.image r.stands (externals_in r.image) (planned m seed)
    (planned_known m seed (stands_for_image input r.image r.stands))
    (ap (count_by is_external) (unscheduled m seed can.free) ∙ none_planned m seed) can other status report
    r.status_is r.text_is

-- ---- races

pub race_again : (turns tick : ℕ) (other : Option ℕ) (input : List ℕ) (status : ℕ) (report : List ℕ)
    → AreLimits turns tick → (r : IsRaceReport turns tick input status report) → CanBeFed input r.image r.events
    → IsReport turns tick other (schedule_text r.events ++ input) status report
race_again turns tick other input status report limits r can =
    subst (λ (es : List Event). IsReport turns tick other (schedule_text es ++ input) status report) r.recorded
    (again turns tick limits input r.image r.stands 0 r.events r.known r.turns_alone
    (subst (CanBeFed input r.image) (sym r.recorded) can) other status report r.status_is r.text_is)
