use Rattle.std.proofs.Common.{◌≡◌, length, map, sym, ap, ◌∙◌, arith, append-nil, ◌++◌}
use Rattle.z_fields.proofs.Pieces.{pieces_none, pieces_pushed}
use Rattle.z_fields.proofs.lines.pieces_by.Goals as goal

pub loop-rest-preserved : goal.loop-rest-preserved
loop-rest-preserved c =
    rw c.in_ok-push.ensures.items
    (pieces_pushed c.args.stop c.loop-rest.pieces.items c.loop-rest.rest.now _ c.first_size.result _ _
    c.loop-rest-test.true c.first_size.ensures.is c.loop-rest.invariant c.split_at.ensures.front
    c.split_at.ensures.back)

pub returns : goal.returns
returns c =
    let none : length c.loop-rest.rest.now ≡ 0 = omega arith in
    sym (append-nil _) ∙ (ap (λ ls. map (λ x. x.now) c.loop-rest.pieces.items ++ ls)
    (sym (pieces_none c.args.stop _ none)) ∙ c.loop-rest.invariant)
