-- The first piece is the next, and behind no bytes there is none.
use Rattle.std.proofs.Common.{◌≡◌, length, drop, ap, sym, ◌∙◌, arith, suc}
use Rattle.z_fields.specs.Pieces.{pieces_by, first_size}
use Rattle.z_fields.proofs.Pieces.{pieces_first, pieces_none}
use Rattle.z_fields.proofs.lines.count_pieces.Goals as goal

pub loop-rest-preserved : goal.loop-rest-preserved
loop-rest-preserved c =
    let behind : c.split_at.result.1.now
    ≡ drop (first_size c.args.stop c.loop-rest.rest.now) c.loop-rest.rest.now =
    c.split_at.ensures.back ∙ ap (λ n. drop n c.loop-rest.rest.now) c.first_size.ensures.is in
    let next : length (pieces_by c.args.stop c.loop-rest.rest.now)
    ≡ suc (length (pieces_by c.args.stop c.split_at.result.1.now)) =
    ap length (pieces_first c.args.stop c.loop-rest.rest.now c.loop-rest-test.true)
    ∙ ap (λ s. suc (length (pieces_by c.args.stop s))) (sym behind) in
    record {
      all = omega arith;
      within = omega (arith, c.split_at.ensures.back_len);
    }

pub returns : goal.returns
returns c =
    let empty : length c.loop-rest.rest.now ≡ 0 = omega arith in
    let none : length (pieces_by c.args.stop c.loop-rest.rest.now) ≡ 0 =
    ap length (pieces_none c.args.stop c.loop-rest.rest.now empty) in
    omega arith
