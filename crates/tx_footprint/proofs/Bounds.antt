-- Bounds on how many places ranges touch, by their lengths alone.
use Rattle.std.proofs.Common.{◌≡◌, ℕ, zero, suc, ◌+◌, ◌-◌, ◌/◌, ◌<◌, ◌≤◌, min, false, leb, ltb}
use Rattle.std.proofs.Common.{List, Some, take, ap, ◌∙◌, arith}
use Rattle.std.specs.Prelude.{◌||◌, slice_get}
use Rattle.std.proofs.lemmas.Bool.{cases_lt, cases_eq, and_left, and_right, and_parts, lt-leb, le-ltb}
use borrow.Enum.Arm.{by_way}
use Rattle.bit_set.specs.Counts.{one_if, count_below}
use Rattle.bit_set.proofs.Counts.{count_agree, count_le, count_none, count_or, at_most_one}
use Rattle.z_regs.specs.declared.ranges.Range.{Range}
use Rattle.tx_footprint.specs.declared.places.Kind.{Kind}
use Rattle.tx_footprint.specs.declared.places.Kind.TheVariants.{Line, FetchedLine, StoredLine, StoredBlock}
use Rattle.tx_footprint.specs.Sizes.{block_size}
use Rattle.tx_footprint.specs.Places.{has_place, size_of, places_of, records, covers, touched_by, lies_in}
use Rattle.tx_footprint.proofs.Marking.{touched_more}
use Rattle.tx_footprint.proofs.Spans.{span_is, no_bytes, some_size}

outside : (first end n : ℕ) → lies_in first end n ≡ false → one_if (lies_in first end n) ≡ 0
outside first end n off = ap one_if off

span_below : (n first end : ℕ) → count_below n (lies_in first end) ≤ min n end - first
unfolding count_below
span_below zero first end = omega arith
span_below (suc n) first end =
    by_way (cases_lt n first)
    (λ before. omega (
      arith,
      span_below n first end,
      outside first end n (and_left (leb first n) (ltb n end) (lt-leb first n before)),
    ))
    (λ from. by_way (cases_lt n end)
    (λ within. omega (arith, span_below n first end, at_most_one (lies_in first end n)))
    (λ past. omega (
      arith,
      span_below n first end,
      outside first end n (and_right (leb first n) (ltb n end) (le-ltb n end past)),
    )))

-- no more numbers lie in a span than it is long
count_span : (n first end : ℕ) → count_below n (lies_in first end) ≤ end - first
count_span n first end = omega (arith, span_below n first end)

-- the places of a range, for blocks and for the larger lines alike
span_size : (kind : Kind) (first length : ℕ) → 0 < length
    → (first + length - 1) / size_of kind + 1 - first / size_of kind ≤ length / block_size + 2
span_size Line first length some = omega arith
span_size FetchedLine first length some = omega arith
span_size StoredLine first length some = omega arith
span_size StoredBlock first length some = omega arith

-- the places of one kind that a range touches
most_covered : (kind : Kind) (r : Range)
    → count_below (places_of kind) (covers kind r) ≤ r.length / block_size + 2
most_covered kind r =
    by_way (cases_eq r.length 0)
    (λ none. omega (
      arith,
      count_none (places_of kind) (covers kind r)
          (λ k _. and_right (records kind r.store) (has_place (size_of kind) r k)
          (no_bytes (size_of kind) r k none)),
    ))
    (λ some.
    let bytes : 0 < r.length = omega arith in
    let first : ℕ = r.first / size_of kind in
    let end : ℕ = (r.first + r.length - 1) / size_of kind + 1 in
    omega (
      arith,
      count_le (places_of kind) (covers kind r) (lies_in first end)
          (λ k _ e. span_is (size_of kind) r k (some_size kind) bytes
          ∙ (and_parts (records kind r.store) (has_place (size_of kind) r k) e).1),
      count_span (places_of kind) first end,
      span_size kind r.first r.length bytes,
    ))

-- one range more
pub most_more : (kind : Kind) (ranges : List Range) (i : ℕ) (r : Range) (most : ℕ)
    → slice_get ranges i ≡ Some r
    → count_below (places_of kind) (touched_by kind (take i ranges)) ≤ most
    → count_below (places_of kind) (touched_by kind (take (i + 1) ranges)) ≤ most
    + (r.length / block_size + 2)
most_more kind ranges i r most e before =
    omega (
      arith,
      before,
      most_covered kind r,
      count_agree (places_of kind) (touched_by kind (take (i + 1) ranges))
          (λ k. touched_by kind (take i ranges) k || covers kind r k)
          (λ k _. touched_more kind ranges i r k e),
      count_or (places_of kind) (touched_by kind (take i ranges)) (covers kind r),
    )
