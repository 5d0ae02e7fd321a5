use Rattle.std.proofs.Common.{arith}
use Rattle.report_form.specs.Text.{lines_of}
use Rattle.tx_check.proofs.Bounds.{fault_number, few_lines}
use Rattle.tx_check.proofs.checking.sheet_of.Goals as goal

pub overflow_cast-result : goal.overflow_cast-result
overflow_cast-result c =
    let fault = rw c.in-Err-Line.field-0-is at c.in-Err-Line.ensures.fault in
    let low = fault_number c.args.image.now (lines_of c.args.report.now) c.in-Err-Line.number fault in
    omega (arith, low, few_lines c.args.report.now, c.requires)
