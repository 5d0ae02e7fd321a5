-- Where nothing is touched, no line is missing.
use Rattle.std.proofs.Common.{sym, ap, arith}
use Rattle.tx_marks.specs.Marks.{mode_in, first_missing}
use Rattle.tx_marks.proofs.MarksEach.{none_touched}
use Rattle.tx_marks.proofs.marks.LineMarks.missing.Goals as goal

pub returns-then-count-eq0 : goal.returns-then-count-eq0
unfolding first_missing
returns-then-count-eq0 c =
    sym (ap (λ needs. first_missing needs (mode_in c.args.self.now))
    (none_touched c.args.ranges.now (omega (arith, c.count.ensures.value, c.if-count-eq0.true))))
