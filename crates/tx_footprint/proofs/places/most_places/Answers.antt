use Rattle.std.proofs.Common.{rules, ◌^◌, ◌<◌, false, refl, arith}
use Rattle.bit_set.proofs.Counts.{count_none}
use Rattle.tx_footprint.specs.Places.{places_of}
use Rattle.tx_footprint.proofs.Bounds.{most_more}
use Rattle.tx_footprint.proofs.places.most_places.Goals as goal

pub loop-i-init : goal.loop-i-init
loop-i-init c = record {
  places = λ kind. omega (arith, count_none (places_of kind) (λ k. false) (λ k _. refl));
  few = omega arith;
}

pub loop-i-preserved : goal.loop-i-preserved
loop-i-preserved c =
    let small : c.at.result.length < 2 ^ 32 = search rules in
    record {
      places = λ kind. most_more kind c.args.touches.now c.loop-i.i c.at.result c.loop-i.most c.at.ensures
          (c.loop-i.invariant.places kind);
      few = omega arith;
    }
