use Rattle.std.proofs.Common.{◌≡◌, ◌+◌, ◌-◌, length, Ok, Err, ap, arith, sym, ◌∙◌, subst}
use Rattle.std.proofs.lemmas.Result.{err_from_is_err_and}
use Rattle.z_fields.specs.Pieces.{pieces_by}
use Rattle.z_reading.specs.Kept.{IsThere}
use Rattle.z_reading.specs.Listing.{plan_of, line_gives}
use Rattle.z_assemble.specs.Steps.{Passes}
use Rattle.z_assemble.specs.Whole.{on}
use Rattle.z_assemble.proofs.Loops.{line_goes, line_fails, lines_end}
use Rattle.z_assemble.proofs.Standing.{there, shorter, next}
use Rattle.z_assemble.proofs.whole.first_over.Goals as goal

pub overflow_add-number : goal.overflow_add-number
overflow_add-number c = omega (arith, ap length c.first_piece.ensures.pieces)

pub first_on-requires : goal.first_on-requires
first_on-requires c =
    let text = c.args.draft.now.works.text.now in
    let rest = c.loop-rest.rest.now in
    let i = c.loop-rest.invariant in
    let here = there text rest c.first_piece.result.0.now c.first_piece.result.1.now i.size i.place
    c.first_piece.ensures.parts in
    let line = subst (λ l. IsThere text (length text - length rest) l) (sym c.without_end.ensures) here in
    subst (λ t. IsThere t (length text - length rest) c.without_end.result.now) (sym i.text) line

pub loop-rest-preserved : goal.loop-rest-preserved
loop-rest-preserved c =
    let text = c.args.draft.now.works.text.now in
    let i = c.loop-rest.invariant in
    let parts = c.first_piece.ensures.parts in
    let one_less : length (pieces_by 10 c.loop-rest.rest.now)
    ≡ 1 + length (pieces_by 10 c.first_piece.result.1.now) =
    omega (arith, ap length c.first_piece.ensures.pieces) in
    record {
      count = omega arith;
      same = line_goes c.loop-rest.rest.now _ _ c.loop-rest.number (plan_of c.loop-rest.draft) _ _
          c.first_piece.ensures.pieces c.loop-rest.invariant.same
          (subst (λ l. on c.loop-rest.number (line_gives c.loop-rest.number l (plan_of c.loop-rest.draft)) ≡
          Ok (plan_of c.first_on.new.draft)) c.without_end.ensures c.in_ok-first_on.ensures.passes);
      size = shorter text c.loop-rest.rest.now _ _ i.size i.place parts;
      place = next text c.loop-rest.rest.now _ _ i.size i.place parts;
      text = ap (λ t. t.now) c.in_ok-first_on.ensures.text ∙ i.text;
    }

pub returns-in_err-first_on : goal.returns-in_err-first_on
returns-in_err-first_on c =
    let p = err_from_is_err_and c.from_residual.result c.from_residual.ensures.1 in
    rw (p.1, p.2)
    (line_fails c.loop-rest.rest.now _ _ c.loop-rest.number (plan_of c.loop-rest.draft) _ _
    c.in_err-first_on.field-0.0 c.first_piece.ensures.pieces c.loop-rest.invariant.same
    (subst (λ l. Passes (Err c.in_err-first_on.field-0.0)
    (on c.loop-rest.number (line_gives c.loop-rest.number l (plan_of c.loop-rest.draft)))
    (plan_of c.first_on.new.draft)) c.without_end.ensures c.in_err-first_on.ensures.passes))

pub returns : goal.returns
returns c =
    let none : length c.loop-rest.rest.now ≡ 0 = omega arith in
    lines_end c.loop-rest.rest.now c.loop-rest.number (plan_of c.loop-rest.draft) _ none
    c.loop-rest.invariant.same
