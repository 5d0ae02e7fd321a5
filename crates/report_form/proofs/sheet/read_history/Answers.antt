use Rattle.std.proofs.Common.{◌-◌, ap}
use Rattle.report_form.specs.Text.{lines_of}
use Rattle.report_form.proofs.Forms.{history_fault, schedule_missing}
use Rattle.report_form.proofs.sheet.read_history.Goals as goal

pub returns-in-Err-clause-fault : goal.returns-in-Err-clause-fault
returns-in-Err-clause-fault c =
    history_fault c.args.image.now (lines_of c.args.text.now) c.args.sheet.entries (c.cpu_count-last.result - 1)
    c.args.sheet.history.line c.in-Err.line c.requires.head c.requires.begins
    (ap (λ n. n - 1) c.cpu_count-last.ensures.count) c.in-Err.ensures.0

pub returns-in-None-clause-fault : goal.returns-in-None-clause-fault
returns-in-None-clause-fault c =
    schedule_missing c.args.image.now (lines_of c.args.text.now) c.args.sheet.entries
    (c.cpu_count-last.result - 1) c.args.sheet.history.line c.in-Ok.place.line c.requires.head c.requires.begins
    (ap (λ n. n - 1) c.cpu_count-last.ensures.count) c.in-Ok.ensures.0 c.in-None.ensures.none
