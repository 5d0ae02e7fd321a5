-- The conflicts of a machine's run.
use Rattle.std.proofs.Common.{◌≡◌, ℕ, Bool, List, Option, ap, subst, ◌∙◌}
use Rattle.std.specs.Prelude.{if◌then◌else◌}
use Rattle.std.specs.List.{range_with_len}
use Rattle.std.proofs.lemmas.List.Folds.{list_all-map}
use Rattle.report_text.specs.Shown.{ShownCpu}
use Rattle.tx_heat.proofs.Recorded.{ran_heat}
use Rattle.tx_heat.specs.Heats.{Heated, heat_of}
use Rattle.tx_heat.specs.Text.{heat_text}
use Rattle.tx_heat.specs.Text as printed
use Rattle.tx_journal.specs.Content.{Content}
use Rattle.tx_journal.specs.declared.events.Event.{Event}
use Rattle.run_answers.specs.Machine.{Seen, opened, setting_of}
use Rattle.tx_meaning.specs.Limits.{Setting}
use Rattle.tx_meaning.specs.Meaning.{meaning}
use Rattle.tx_meaning.specs.Schedules.{planned}
use Rattle.tx_meaning.specs.State.{cpus_of}
use Rattle.run_answers.specs.Report.{status_of}
use Rattle.run_answers.specs.Shown.{cpu_shown}
use Rattle.run_answers.specs.Ran.{HasRun}
use Rattle.z_assemble.specs.Whole.{Stands}
use Rattle.ztx_answers.specs.Heats.{IsHeat}
use Rattle.run_answers.specs.Runs.{running}
use Rattle.run_answers.proofs.Ran.{IsOpened, ran_status}

-- ---- statuses

-- the status of the report is the one that is printed
pub same_status : (m : Setting) (events : List Event) → status_of m events ≡ printed.status_of (heat_of m.image m.limits events)
unfolding status_of heat_of
same_status m events =
    let s = meaning m events in
    ap (λ (b : Bool). if b then 0 else 6)
    (list_all-map (λ (c : ShownCpu). c.finished) (cpu_shown m s) (range_with_len 0 (cpus_of m)))

-- ---- what is due

-- a machine that has run has what is due
pub heat_due : (image : Content) (turns tick : ℕ) (seed : Option ℕ) (before after : Seen) (found : Heated)
    (input : List ℕ) (status : ℕ) (text : List ℕ) → IsOpened image turns tick before
    → HasRun before after (planned (setting_of before) seed)
    → found ≡ heat_of after.image after.limits after.events
    → status ≡ status_of (setting_of after) after.events → text ≡ heat_text found → Stands input image
    → IsHeat turns tick seed input status text
heat_due image turns tick seed before after found input status text is ran h s t stands =
    let m = running image turns tick in
    let run : HasRun (opened image m.limits) after (planned m seed) =
    subst (λ (b : Seen). HasRun b after (planned (setting_of b) seed)) is ran in
    let status_is = s ∙ ran_status m after (planned m seed) run.setting run.state in
    record {
      image = image;
      stands = stands;
      status_is = status_is;
      printed_is = status_is ∙ same_status m (planned m seed);
      text_is = t ∙ ap heat_text (h ∙ ran_heat m after (planned m seed) run.setting run.state);
    }
