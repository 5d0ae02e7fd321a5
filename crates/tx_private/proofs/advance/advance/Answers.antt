use Rattle.std.proofs.Common.{refl, subst, ap}
use Rattle.std.specs.FinSet.{items}
use Rattle.tx_private.specs.declared.attempt.Mark.TheVariants.{Open, Committed, Overflowed, Missing}
use Rattle.tx_private.specs.Shows.{IsRun, mark_of}
use Rattle.tx_private.proofs.Ready.{gone, more_open, more_committed, more_overflowed, more_missing, is_there}
use Rattle.tx_private.proofs.Ready.{marked_as}
use Rattle.tx_private.proofs.advance.advance.Goals as goal

pub returns-in-Open-clause-run : goal.returns-in-Open-clause-run
returns-in-Open-clause-run c = λ base p r.
    let is = marked_as base c.args.a.now p Open r c.in-Open.is in
    subst (IsRun base c.advance_open.new.a) (more_open (items c.args.guard.now) p is)
    (c.advance_open.ensures.run base p (r.shows (is_there p.mark is)) is)

pub returns-in-Committed-clause-run : goal.returns-in-Committed-clause-run
returns-in-Committed-clause-run c = λ base p r.
    gone base _ _ refl
    (more_committed (items c.args.guard.now) p (marked_as base c.args.a.now p Committed r c.in-Committed.is))

pub returns-in-Overflowed-clause-run : goal.returns-in-Overflowed-clause-run
returns-in-Overflowed-clause-run c = λ base p r.
    gone base _ _ refl
    (more_overflowed (items c.args.guard.now) p (marked_as base c.args.a.now p Overflowed r
    c.in-Overflowed.is))

pub returns-in-Missing-clause-run : goal.returns-in-Missing-clause-run
returns-in-Missing-clause-run c = λ base p r.
    let is = marked_as base c.args.a.now p Missing r c.in-Missing.is in
    gone base _ _ (ap mark_of c.in-Missing.is)
    (more_missing (items c.args.guard.now) p is)
