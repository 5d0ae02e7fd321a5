use Rattle.std.proofs.Common.{◌-◌, ap, arith}
use Rattle.report_form.specs.Text.{lines_of}
use Rattle.report_form.proofs.TextLines.{some_left, none_left}
use Rattle.report_form.proofs.Forms.{schedule_fault, line_too_many, whole_form}
use Rattle.report_form.proofs.sheet.read_schedule.Goals as goal

pub returns-in-Err-clause-fault : goal.returns-in-Err-clause-fault
returns-in-Err-clause-fault c =
    schedule_fault c.args.image.now (lines_of c.args.text.now) c.schedule_parts.result c.args.entries c.args.events
    (c.cpu_count-last.result - 1) c.args.at.line c.in-Err.line c.requires.history c.requires.begins
    (ap (λ n. n - 1) c.cpu_count-last.ensures.count) c.schedule_parts.ensures c.in-Err.ensures.0

pub returns-then-end-text-clause-fault : goal.returns-then-end-text-clause-fault
returns-then-end-text-clause-fault c =
    line_too_many c.args.image.now (lines_of c.args.text.now) c.schedule_parts.result c.args.entries c.args.events
    (c.cpu_count-last.result - 1) c.args.at.line c.in-Ok.end.line c.requires.history c.requires.begins
    (ap (λ n. n - 1) c.cpu_count-last.ensures.count) c.schedule_parts.ensures c.in-Ok.ensures.0
    (some_left c.args.text.now c.in-Ok.end c.in-Ok.ensures.1 (omega arith))

pub returns-else-end-text-clause-form : goal.returns-else-end-text-clause-form
returns-else-end-text-clause-form c =
    whole_form c.args.image.now (lines_of c.args.text.now) c.schedule_parts.result c.args.entries c.args.events
    (c.cpu_count-last.result - 1) c.args.at.line c.in-Ok.end.line c.requires.history c.requires.begins
    (ap (λ n. n - 1) c.cpu_count-last.ensures.count) c.schedule_parts.ensures c.in-Ok.ensures.0
    (none_left c.args.text.now c.in-Ok.end c.in-Ok.ensures.1 (omega arith))
