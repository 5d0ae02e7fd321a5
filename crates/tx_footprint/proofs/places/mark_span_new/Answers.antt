use Rattle.std.proofs.Common.{rules, ◌<◌, length, get_or, false, ap, sym, ◌∙◌, arith}
use Rattle.std.specs.Int.{from_bool}
use Rattle.bit_set.specs.Counts.{count_below}
use Rattle.tx_footprint.proofs.Marking.{at_most_one, count_set}
use Rattle.tx_footprint.proofs.places.mark_span_new.Goals as goal

pub loop-place-preserved : goal.loop-place-preserved
loop-place-preserved c =
    let within : c.loop-place.place < length c.args.set.now = omega (arith, c.requires.within) in
    let more =
    ap (λ s. count_below (length c.args.set.now) (λ k. get_or s k false)) c.insert_new.ensures.marks
    ∙ count_set (length c.args.set.now) c.loop-place.set c.loop-place.place within
    (sym c.loop-place.invariant.size) in
    let one = c.from-new.ensures ∙ ap from_bool c.insert_new.ensures.new in
    record {
      size = search rules;
      marks = search rules;
      few = omega (arith, c.from-new.ensures, at_most_one c.insert_new.result);
      new = omega (arith, more, one, c.loop-place.invariant.new);
    }
