use Rattle.std.proofs.Common.{take, ap, sym, ◌∙◌}
use Rattle.std.specs.Prelude.{◌||◌}
use Rattle.tx_footprint.specs.Places.{lies_in, marked_or_touched}
use Rattle.tx_footprint.proofs.Marking.{storage_at, marked_more}
use Rattle.tx_footprint.proofs.places.mark.Goals as goal

pub span_of-requires : goal.span_of-requires
span_of-requires c = storage_at c.args.touches.now c.loop-i.i c.at.result c.requires.in_storage c.at.ensures

pub loop-i-preserved : goal.loop-i-preserved
loop-i-preserved c = (
  c.mark_span.ensures.size ∙ c.loop-i.invariant.0,
  λ k. c.mark_span.ensures.marks k
      ∙ ap (λ b. b || lies_in c.span_of.result.first c.span_of.result.end k) (c.loop-i.invariant.1 k)
      ∙ ap (λ b. marked_or_touched c.args.set.now c.args.kind (take c.loop-i.i c.args.touches.now) k || b)
      (c.span_of.ensures.places k)
      ∙ sym (marked_more c.args.set.now c.args.kind c.args.touches.now c.loop-i.i c.at.result k c.at.ensures),
)
