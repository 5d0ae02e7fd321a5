use Rattle.std.proofs.Common.{◌-◌, ◌∙◌, ap, subst}
use Rattle.report_form.specs.Lines.{rows_of, Passes, Stops}
use Rattle.report_form.specs.Text.{lines_of}
use Rattle.report_form.proofs.Forms.{head_fault, history_missing}
use Rattle.report_form.proofs.sheet.read_head.Goals as goal

pub returns-in-Err-clause-fault : goal.returns-in-Err-clause-fault
returns-in-Err-clause-fault c =
    head_fault c.args.image.now (lines_of c.args.text.now) c.deref.result.now (c.cpu_count-last.result - 1)
    c.in-Err.line (c.deref.ensures.value ∙ c.in-Ok.ensures) (ap (λ n. n - 1) c.cpu_count-last.ensures.count)
    (subst (λ n. Stops (c.cpu_count-last.result - 1) (rows_of c.deref.result.now) (lines_of c.args.text.now) n c.in-Err.line)
    c.start.ensures.line c.in-Err.ensures.0)

pub returns-in-None-clause-fault : goal.returns-in-None-clause-fault
returns-in-None-clause-fault c =
    history_missing c.args.image.now (lines_of c.args.text.now) c.deref.result.now
    (c.cpu_count-last.result - 1) c.in-Ok-follow.place.line (c.deref.ensures.value ∙ c.in-Ok.ensures)
    (ap (λ n. n - 1) c.cpu_count-last.ensures.count)
    (subst (λ n. Passes (c.cpu_count-last.result - 1) (rows_of c.deref.result.now) (lines_of c.args.text.now) n
    c.in-Ok-follow.place.line) c.start.ensures.line c.in-Ok-follow.ensures.0) c.in-None.ensures.none
