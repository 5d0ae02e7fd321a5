use Rattle.std.proofs.Common.{◌≡◌, ◌<◌, ℕ, Bool, take, ap, ◌∙◌, arith}
use Rattle.std.specs.Prelude.{◌||◌}
use Rattle.std.specs.Int.{from_bool}
use Rattle.bit_set.specs.Counts.{count_below}
use Rattle.tx_footprint.specs.Places.{lies_in, places_of, marked_or_touched}
use Rattle.tx_footprint.proofs.Marking.{storage_at, count_next, count_end, at_most_one}
use Rattle.tx_footprint.proofs.places.added_by.Goals as goal

pub span_of-span-requires : goal.span_of-span-requires
span_of-span-requires c =
    storage_at c.args.touches.now c.args.i c.at.result c.requires.in_storage c.at.ensures

pub loop-place-preserved : goal.loop-place-preserved
loop-place-preserved c =
    let there : ℕ → Bool = marked_or_touched c.args.set.now c.args.kind (take c.args.i c.args.touches.now) in
    let in_places : c.loop-place.place < places_of c.args.kind =
    omega (arith, c.span_of-span.ensures.within) in
    let next =
    count_next (places_of c.args.kind) there c.span_of-span.result.first c.loop-place.place
    c.loop-place.auto.place in_places in
    let one = c.from-added.ensures ∙ ap from_bool c.is_new.ensures in (
      omega (arith, c.from-added.ensures, at_most_one c.is_new.result, c.loop-place.invariant.0),
      omega
          (arith, next, one, c.loop-place.invariant.1),
    )

pub returns : goal.returns
returns c =
    let there : ℕ → Bool = marked_or_touched c.args.set.now c.args.kind (take c.args.i c.args.touches.now) in
    let done : c.loop-place.place ≡ c.span_of-span.result.end =
    omega (arith, c.loop-place.auto.place-end c.span_of-span.ensures.order) in
    c.loop-place.invariant.1
    ∙ ap (λ end. count_below (places_of c.args.kind)
    (λ k. there k || lies_in c.span_of-span.result.first end k)) done
    ∙ count_end (places_of c.args.kind) c.args.set.now c.args.kind c.args.touches.now c.args.i
    c.span_of-span.result.first c.span_of-span.result.end c.at.result c.at.ensures
    c.span_of-span.ensures.places
