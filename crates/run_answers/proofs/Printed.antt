-- A report is that of the events that it prints.
use Rattle.std.proofs.Common.{◌≡◌, List, ap, sym}
use Rattle.report_text.specs.Report as text
use Rattle.tx_headline.proofs.Recorded.{recorded_mean}
use Rattle.tx_journal.specs.declared.events.Event.{Event}
use Rattle.tx_meaning.specs.Limits.{Setting}
use Rattle.tx_meaning.specs.Meaning.{meaning}
use Rattle.tx_meaning.specs.State.{State}
use Rattle.tx_report.specs.Report.{report_of}
use Rattle.tx_report.specs.Shown.{shown_in}

pub printed : (m : Setting) (events : List Event) → report_of m events ≡ report_of m (meaning m events).events
unfolding report_of
printed m events = ap (λ (s : State). text.report_text (shown_in m s)) (sym (recorded_mean m events))
