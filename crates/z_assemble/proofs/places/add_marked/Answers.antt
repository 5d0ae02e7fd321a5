use Rattle.std.proofs.Common.{◌++◌, ◌∙◌, ap, append-nil, arith, false, refl, sym}
use Rattle.z_assemble.proofs.MarkedPlaces.{place_step, places_none}
use Rattle.z_assemble.proofs.places.add_marked.Goals as goal

pub loop-k-init : goal.loop-k-init
loop-k-init c =
    let old = c.args.places.now.items in
    record {
      same = sym (ap (λ l. old ++ l) (places_none c.args.first) ∙ append-nil old);
      inside = λ n h all. all;
    }

pub loop-k-preserved : goal.loop-k-preserved
loop-k-preserved c = record {
  same =
      c.in_ok-push_marked.ensures.is
      ∙ place_step c.args.first c.loop-k.k c.args.marks.now false _ c.args.places.now.items
      c.loop-k.places.items c.loop-k-test.true refl c.loop-k.invariant.same;
  inside = λ n h all.
      c.in_ok-push_marked.ensures.inside n (omega (arith, h, c.loop-k-test.true))
      (c.loop-k.invariant.inside n h all);
}
