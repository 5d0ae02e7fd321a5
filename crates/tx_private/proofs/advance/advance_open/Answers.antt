use Rattle.std.proofs.Common.{ap, refl, true, false}
use Rattle.std.specs.FinSet.{items}
use Rattle.tx_serial.specs.Run.{after_fate}
use Rattle.tx_private.proofs.Refusing.{has_prefix}
use Rattle.tx_private.proofs.Ready.{gone, ready, follows_by, gone_on, no_first}
use Rattle.tx_private.proofs.advance.advance_open.Goals as goal

pub go-requires : goal.go-requires
go-requires c =
    let a = c.args.a.now in
    let base = c.requires.0 in
    let p = c.requires.1.0 in
    let shows = c.requires.1.1 in
    let comes = c.in-Goes.ensures base p shows in
    ready base (items c.args.guard.now) a p c.in-Goes.instr c.in-Goes.admitted.touches
    c.in-Goes.admitted.absolute shows
    (has_prefix base a p shows) comes.0 comes.1
    (follows_by base a p c.in-Goes.instr c.may_come.result true shows c.may_come.ensures c.if-may_come.true)

pub returns-then-may_come-clause-run : goal.returns-then-may_come-clause-run
returns-then-may_come-clause-run c = λ base p shows is.
    let a = c.args.a.now in
    let comes = c.in-Goes.ensures base p shows in
    gone_on base (items c.args.guard.now) a c.go.new.a p c.in-Goes.instr c.in-Goes.admitted.touches
    c.in-Goes.admitted.absolute shows (has_prefix base a p shows) comes.0 comes.1 is
    (follows_by base a p c.in-Goes.instr c.may_come.result true shows c.may_come.ensures c.if-may_come.true)
    c.go.ensures.moved

pub returns-else-may_come-clause-run : goal.returns-else-may_come-clause-run
returns-else-may_come-clause-run c = λ base p shows is.
    let a = c.args.a.now in
    let comes = c.in-Goes.ensures base p shows in
    gone base _ _ refl
    (no_first (items c.args.guard.now) p c.in-Goes.instr c.in-Goes.admitted.touches comes.0
    (follows_by base a p c.in-Goes.instr c.may_come.result false shows c.may_come.ensures
    c.if-may_come.false))

pub returns-in-Ends-clause-run : goal.returns-in-Ends-clause-run
returns-in-Ends-clause-run c = λ base p shows is.
    gone base _ _ refl (ap (λ o. (after_fate o p).mark) (c.in-Ends.ensures base p shows))

pub returns-in-Stops-clause-run : goal.returns-in-Stops-clause-run
returns-in-Stops-clause-run c = λ base p shows is.
    gone base _ _ refl (ap (λ o. (after_fate o p).mark) (c.in-Stops.ensures base p shows))
