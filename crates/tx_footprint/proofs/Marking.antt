-- Marking and counting the places of ranges, one range and one place after the other.
use Rattle.std.proofs.Common.{◌≡◌, ◌≢◌, ℕ, ◌+◌, ◌<◌, ◌≤◌, Bool, true, false, ltb, leb, List, length, get_or, ◌++◌}
use Rattle.std.proofs.Common.{set, take, Some, refl, sym, ap, subst, ◌∙◌, arith}
use Rattle.std.specs.Prelude.{◌||◌, ◌&&◌, not, All, slice_get}
use Rattle.std.specs.Int.{from_bool}
use Rattle.std.proofs.Math.Bool.{or-true}
use Rattle.std.proofs.lemmas.Bool.{cases_eq, cases_lt, and_right, and_from, or_from, le-leb, lt-ltb, le-ltb}
use Rattle.std.proofs.lemmas.List.{get_or-take, length-take, get_or-set_same, get_or-set_other}
use Rattle.std.proofs.lemmas.List.Folds.{list_any_more, list_any_at, list_any-append}
use Rattle.std.proofs.lemmas.Option.{get_or_from_slice_get, slice_get_within}
use borrow.Enum.Arm.{by_way}
use Rattle.bit_set.specs.Counts.{one_if, count_below, but_at}
use Rattle.bit_set.proofs.Counts.{count_agree, count_but_at, but_at-same, but_at-other}
use Rattle.z_regs.specs.declared.ranges.Range.{Range}
use Rattle.tx_footprint.specs.declared.places.Kind.{Kind}
use Rattle.tx_footprint.specs.Places.{IsInStorage, covers, touched_by, lies_in, marked_or_touched, has_place}
use Rattle.std.proofs.Math.Bool.{or-false, or_assoc}
use Rattle.std.specs.List.{list_any}
use Rattle.tx_footprint.specs.Sizes.{line_size, block_size}
use Rattle.tx_footprint.specs.Touched.{Sets, touching}

pub storage_at : (ranges : List Range) (i : ℕ) (r : Range) → All IsInStorage ranges
    → slice_get ranges i ≡ Some r → IsInStorage r
storage_at ranges i r all e =
    subst IsInStorage (get_or_from_slice_get ranges i r r e) (all i r (slice_get_within ranges i r e))

pub touched_more : (kind : Kind) (ranges : List Range) (i : ℕ) (r : Range) (place : ℕ)
    → slice_get ranges i ≡ Some r
    → touched_by kind (take (i + 1) ranges)
    place ≡ (touched_by kind (take i ranges) place || covers kind r place)
touched_more kind ranges i r place e =
    list_any_more (λ x. covers kind x place) ranges i r (slice_get_within ranges i r e)
    ∙ ap (λ x. touched_by kind (take i ranges) place || covers kind x place)
    (get_or_from_slice_get ranges i r r e)

-- a place that one of the first ranges touches
pub touched_at : (kind : Kind) (ranges : List Range) (n i : ℕ) (r : Range) (place : ℕ)
    → slice_get ranges i ≡ Some r → i < n → n ≤ length ranges → covers kind r place ≡ true
    → touched_by kind (take n ranges) place ≡ true
touched_at kind ranges n i r place e lt within covered =
    list_any_at (λ x. covers kind x place) (take n ranges) i r
    (omega (arith, lt, within, length-take n ranges))
    (ap (λ x. covers kind x place) (get_or-take n ranges i r lt ∙ get_or_from_slice_get ranges i r r e)
    ∙ covered)

-- one range more that does not touch the place
pub still_untouched : (kind : Kind) (ranges : List Range) (i : ℕ) (r : Range) (place : ℕ)
    → slice_get ranges i ≡ Some r → touched_by kind (take i ranges) place ≡ false
    → covers kind r place ≡ false → touched_by kind (take (i + 1) ranges) place ≡ false
still_untouched kind ranges i r place e before off =
    touched_more kind ranges i r place e
    ∙ or_from (touched_by kind (take i ranges) place) (covers kind r place) before off

-- one range more: what it touches is added to what was marked or touched
pub marked_more : (marks : List Bool) (kind : Kind) (ranges : List Range) (i : ℕ) (r : Range) (place : ℕ)
    → slice_get ranges i ≡ Some r
    → marked_or_touched marks kind (take (i + 1) ranges)
    place ≡ (marked_or_touched marks kind (take i ranges) place || covers kind r place)
marked_more marks kind ranges i r place e =
    ap (λ b. get_or marks place false || b) (touched_more kind ranges i r place e)
    ∙ sym (or_assoc (get_or marks place false) (touched_by kind (take i ranges) place) (covers kind r place))

-- ---- spans, place by place

pub lies_next : (first at k : ℕ) → k ≢ at → lies_in first (at + 1) k ≡ lies_in first at k
lies_next first at k ne =
    by_way (cases_lt k at)
    (λ low. ap (λ b. leb first k && b) (lt-ltb k (at + 1) (omega (arith, low)) ∙ sym (lt-ltb k at low)))
    (λ high. ap (λ b. leb first k && b) (le-ltb k (at + 1) (omega (arith, high, ne))
    ∙ sym (le-ltb k at high)))

pub lies_last : (first at : ℕ) → first ≤ at → lies_in first (at + 1) at ≡ true
lies_last first at le =
    and_from (leb first at) (ltb at (at + 1)) (le-leb first at le) (lt-ltb at (at + 1) (omega arith))

lies_not_yet : (first at : ℕ) → lies_in first at at ≡ false
lies_not_yet first at = and_right (leb first at) (ltb at at) (le-ltb at at (omega arith))

one_or_other : (b : Bool) → one_if b + from_bool (not b) ≡ 1
one_or_other true = refl
one_or_other false = refl

-- one place more: it counts where it was not there
pub count_next : (n : ℕ) (there : ℕ → Bool) (first at : ℕ) → first ≤ at → at < n
    → count_below n (λ k. there k || lies_in first (at + 1) k) ≡ count_below n
    (λ k. there k || lies_in first at k) + from_bool (not (there at))
count_next n there first at le lt =
    let so_far : ℕ → Bool = λ k. there k || lies_in first at k in
    let alike =
    count_agree n (λ k. there k || lies_in first (at + 1) k) (but_at so_far at true) (λ k _. each k) in
    omega (
      arith,
      alike,
      count_but_at n so_far at true lt,
      ap one_if
          (ap (λ b. there at || b) (lies_not_yet first at) ∙ or-false (there at)),
      one_or_other (there at),
    )
  where
    each : (k : ℕ)
        → (there k || lies_in first (at + 1) k) ≡ but_at (λ j. there j || lies_in first at j) at true k
    each k =
        by_way (cases_eq k at)
        (λ e.
        ap (λ j. there j || lies_in first (at + 1) j) e ∙ ap (λ b. there at || b) (lies_last first at le)
        ∙ or-true (there at)
        ∙ sym (ap (but_at (λ j. there j || lies_in first at j) at true) e
        ∙ but_at-same (λ j. there j || lies_in first at j) at true))
        (λ ne. ap (λ b. there k || b) (lies_next first at k ne)
        ∙ sym (but_at-other (λ j. there j || lies_in first at j) at true k ne))

-- one place more is marked: it counts where it was not marked
pub count_set : (n : ℕ) (marks : List Bool) (at : ℕ) → at < n → n ≡ length marks
    → count_below n (λ k. get_or (set marks at true) k false) ≡ count_below n (λ k. get_or marks k false)
    + from_bool (not (get_or marks at false))
count_set n marks at lt size =
    let alike =
    count_agree n (λ k. get_or (set marks at true) k false) (but_at (λ k. get_or marks k false) at true)
    (λ k _. each k) in
    omega (
      arith,
      alike,
      count_but_at n (λ k. get_or marks k false) at true lt,
      one_or_other (get_or marks at false),
    )
  where
    each : (k : ℕ) → get_or (set marks at true) k false ≡ but_at (λ j. get_or marks j false) at true k
    each k =
        by_way (cases_eq k at)
        (λ e.
        ap (λ j. get_or (set marks at true) j false) e
        ∙ get_or-set_same marks at true false (omega (arith, lt, size))
        ∙ sym (ap (but_at (λ j. get_or marks j false) at true) e
        ∙ but_at-same (λ j. get_or marks j false) at true))
        (λ ne. get_or-set_other marks at k true false ne
        ∙ sym (but_at-other (λ j. get_or marks j false) at true k ne))

-- after the last place all of the range is
pub count_end : (n : ℕ) (marks : List Bool) (kind : Kind) (ranges : List Range) (i first end : ℕ) (r : Range)
    → slice_get ranges i ≡ Some r → ((k : ℕ) → lies_in first end k ≡ covers kind r k)
    → count_below n (λ k. marked_or_touched marks kind (take i ranges) k || lies_in first end k) ≡ count_below
    n (marked_or_touched marks kind (take (i + 1) ranges))
count_end n marks kind ranges i first end r e places =
    count_agree n (λ k. marked_or_touched marks kind (take i ranges) k || lies_in first end k)
    (marked_or_touched marks kind (take (i + 1) ranges))
    (λ k _. ap (λ b. marked_or_touched marks kind (take i ranges) k || b) (places k)
    ∙ sym (marked_more marks kind ranges i r k e))

pub at_most_one : (b : Bool) → from_bool b ≤ 1
at_most_one true = omega arith
at_most_one false = omega arith

-- what is touched in two turns
pub touching_twice : (sets : Sets) (xs ys : List Range) → touching (touching sets xs) ys ≡ touching sets (xs
    ++ ys)
touching_twice sets xs ys i = record {
  fetched = λ line. in_turn (λ r. not r.store && has_place line_size r line) (sets.fetched line) i;
  stored = λ line. in_turn (λ r. r.store && has_place line_size r line) (sets.stored line) i;
  blocks = λ block. in_turn (λ r. r.store && has_place block_size r block) (sets.blocks block) i;
}
  where
    in_turn : (test : Range → Bool) (was : Bool)
        → ((was || list_any test xs) || list_any test ys) ≡ (was || list_any test (xs ++ ys))
    in_turn test was =
        or_assoc was (list_any test xs) (list_any test ys)
        ∙ ap (λ b. was || b) (sym (list_any-append test xs ys))
