-- What is handed over is what the state shows.
use Rattle.std.proofs.Common.{◌∙◌, ap, ap₂, ℕ, List, map}
use Rattle.report_text.specs.Shown.{ShownCpu, shown_cpu}
use Rattle.report_text.specs.Summary.{summary_text}
use Rattle.tx_report.specs.Report.{summary_of}
use Rattle.tx_report.proofs.whole.summary.Goals as goal

pub returns : goal.returns
unfolding summary_of
returns c =
    c.in_ok-text.ensures
    ∙ ap₂ (λ (cpus : List ShownCpu) (values : List ℕ). summary_text c.args.number cpus values)
    (ap (map shown_cpu) c.as_slice.ensures.value ∙ c.in_ok-cpus.ensures.shown)
    c.counter_values-counters.ensures
