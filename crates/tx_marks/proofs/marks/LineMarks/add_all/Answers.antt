use Rattle.std.proofs.Common.{sym, ap, ◌∙◌, arith}
use Rattle.tx_marks.specs.Marks.{mode_in, with_needs}
use Rattle.tx_marks.proofs.MarksEach.{none_added, none_touched}
use Rattle.tx_marks.proofs.marks.LineMarks.add_all.Goals as goal

pub returns-then-count-eq0 : goal.returns-then-count-eq0
returns-then-count-eq0 c = λ line.
    none_added (mode_in c.args.self.now) line
    ∙ sym (ap (λ needs. with_needs needs (mode_in c.args.self.now) line)
    (none_touched c.args.ranges.now (omega (arith, c.count.ensures.value, c.if-count-eq0.true))))

pub returns-in-Some : goal.returns-in-Some
unfolding with_needs
returns-in-Some c = λ line.
    c.add.ensures line ∙ sym (ap (λ needs. with_needs needs (mode_in c.args.self.now) line) c.in-Some.ensures.need)
