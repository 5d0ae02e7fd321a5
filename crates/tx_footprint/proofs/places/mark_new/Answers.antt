use Rattle.std.proofs.Common.{◌≡◌, ◌+◌, ℕ, false, get_or, take, ap, sym, subst, ◌∙◌, arith}
use Rattle.std.specs.Prelude.{◌||◌}
use Rattle.bit_set.specs.Counts.{count_below}
use Rattle.bit_set.proofs.Counts.{count_at_most}
use Rattle.tx_footprint.specs.Places.{lies_in, places_of, marked_or_touched}
use Rattle.tx_footprint.proofs.Marking.{storage_at, marked_more}
use Rattle.tx_footprint.proofs.Spans.{few_places}
use Rattle.tx_footprint.proofs.places.mark_new.Goals as goal

-- one span more, counted over the places of the kind
one_more : (c : goal.After-mark_span_new-new)
    → c.mark_span_new-new.result + count_below (places_of c.args.kind)
    (λ k. get_or c.loop-i.set k false) ≡ count_below (places_of c.args.kind)
    (λ k. get_or c.mark_span_new-new.new.set k false)
one_more c =
    subst (λ (n : ℕ). c.mark_span_new-new.result
    + count_below n (λ k. get_or c.loop-i.set k false) ≡ count_below n
    (λ k. get_or c.mark_span_new-new.new.set k false)) (c.loop-i.invariant.size ∙ c.requires.size)
    c.mark_span_new-new.ensures.new

pub span_of-requires : goal.span_of-requires
span_of-requires c = storage_at c.args.touches.now c.loop-i.i c.at.result c.requires.in_storage c.at.ensures

pub overflow_add-new : goal.overflow_add-new
overflow_add-new c =
    omega (
      arith,
      few_places c.args.kind,
      c.loop-i.invariant.new,
      one_more c,
      count_at_most (places_of c.args.kind) (λ k. get_or c.mark_span_new-new.new.set k false),
    )

pub loop-i-preserved : goal.loop-i-preserved
loop-i-preserved c =
    record {
      size = c.mark_span_new-new.ensures.size ∙ c.loop-i.invariant.size;
      marks = λ k. c.mark_span_new-new.ensures.marks k
          ∙ ap (λ b. b || lies_in c.span_of.result.first c.span_of.result.end k) (c.loop-i.invariant.marks k)
          ∙ ap (λ b. marked_or_touched c.args.set.now c.args.kind (take c.loop-i.i c.args.touches.now) k || b)
          (c.span_of.ensures.places k)
          ∙ sym (marked_more c.args.set.now c.args.kind c.args.touches.now c.loop-i.i c.at.result k
          c.at.ensures);
      new = omega (arith, one_more c, c.loop-i.invariant.new);
    }
