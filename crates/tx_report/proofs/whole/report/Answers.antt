-- What is handed over is what the state shows.
use Rattle.std.proofs.Common.{◌∙◌, ap, map}
use Rattle.z_regs.specs.Prefix.{storage_size}
use Rattle.tx_journal.specs.Content.{Content}
use Rattle.report_text.specs.Shown.{shown_cpu}
use Rattle.report_text.specs.Report as text
use Rattle.tx_serial.proofs.Listed.{length-bytes_below}
use Rattle.tx_meaning.specs.State.{flat_of}
use Rattle.tx_machine.specs.Machine.{setting_of, state_of}
use Rattle.tx_report.specs.Report.{report_of}
use Rattle.tx_report.proofs.Told.{told}
use Rattle.tx_report.proofs.whole.report.Goals as goal

pub report-requires-clause-size : goal.report-requires-clause-size
report-requires-clause-size c =
    let machine = c.args.machine.now in
    length-bytes_below storage_size (flat_of (setting_of machine) (state_of machine)).storage

pub returns : goal.returns
unfolding report_of
returns c =
    let machine = c.args.machine.now in
    c.in_ok-text.ensures
    ∙ ap text.report_text (told (setting_of machine) (state_of machine) c.as_slice.result.now
    c.as_slice-shows.result.now c.journal-history.result.now c.events-events.result.now
    (ap (map shown_cpu) c.as_slice.ensures.value ∙ c.in_ok-cpus.ensures.shown)
    (c.as_slice-shows.ensures.value
    ∙ ap (λ (i : Content). i.shows) (c.behind-machine.view_is ∙ c.image.ensures))
    c.journal-history.ensures c.events-events.ensures.meant)
