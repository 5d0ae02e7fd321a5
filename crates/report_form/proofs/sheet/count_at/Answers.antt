use Rattle.std.proofs.Common.{arith}
use Rattle.report_form.proofs.sheet.count_at.Goals as goal

pub returns-in_err-line-clause-none : goal.returns-in_err-line-clause-none
returns-in_err-line-clause-none c = rw c.from_residual.ensures (λ n h.
    let there = h.there in
    let past = c.in_err-line.ensures.none in
    omega (arith, there, past))
