use Rattle.std.proofs.Common.{◌∙◌}
use Rattle.std.specs.FinSet.{items}
use Rattle.tx_private.proofs.Refusing.{has_prefix}
use Rattle.tx_private.proofs.Ended.{inside_other, tried_by}
use Rattle.tx_private.proofs.ending.cause_of_next.Goals as goal

pub tried-requires-clause-size : goal.tried-requires-clause-size
tried-requires-clause-size c = c.is_whole.ensures

pub tried-requires-clause-inside : goal.tried-requires-clause-inside
tried-requires-clause-inside c =
    let a = c.args.a.now in
    let base = c.requires.0 in
    let p = c.requires.1.0 in
    let shows = c.requires.1.1 in
    let comes = c.in-Goes.ensures base p shows in
    inside_other base (items c.args.guard.now) a p c.in-Goes.instr c.in-Goes.field-1.touches shows
    (has_prefix base a p shows) comes.0 c.is_whole.ensures

pub returns-in-Goes-clause-value : goal.returns-in-Goes-clause-value
returns-in-Goes-clause-value c = λ base p shows.
    let a = c.args.a.now in
    let comes = c.in-Goes.ensures base p shows in
    c.tried.ensures
    ∙ tried_by base (items c.args.guard.now) a p c.in-Goes.instr c.in-Goes.field-1.touches shows
    (has_prefix base a p shows) comes.0
