-- One range that is touched, kind by kind.
use Rattle.std.proofs.Common.{◌≡◌, ℕ, ◌+◌, ◌-◌, ◌/◌, ◌<◌, Bool, true, false, ltb, leb, List, [], ◌∷◌, length, get_or, set}
use Rattle.std.proofs.Common.{refl, sym, ap, subst, ◌∙◌, arith}
use Rattle.bit_set.specs.Counts.{count_below}
use Rattle.std.specs.Prelude.{◌||◌, ◌&&◌, not}
use Rattle.std.specs.Int.{from_bool}
use Rattle.z_regs.specs.declared.ranges.Range.{Range}
use Rattle.tx_footprint.specs.declared.places.Kind.{Kind}
use Rattle.tx_footprint.specs.declared.places.Kind.TheVariants.{Line, FetchedLine, StoredLine, StoredBlock}
use Rattle.tx_footprint.specs.Places.{has_place, size_of, records, covers, lies_in}
use Rattle.tx_footprint.proofs.Marking.{lies_next, lies_last, count_set}
use Rattle.tx_footprint.proofs.Spans.{span_is, some_size}
use Rattle.tx_footprint.specs.Touched.{Touched, touching, sets_of}
use Rattle.tx_footprint.proofs.Limits.{AreAdded}
use Rattle.std.proofs.Math.Bool.{or-true, or-false}
use Rattle.std.proofs.lemmas.Bool.{cases_eq, cases_lt, and_left, and_right, lt-leb, le-ltb}
use Rattle.std.proofs.lemmas.List.{get_or-set_same, get_or-set_other, length-set}
use borrow.Enum.Arm.{by_way}

-- the places of a span were added, which are those of the range
pub one_added : (kind : Kind) (r : Range) (first end : ℕ) (before after : List Bool) → length after ≡ length before
    → ((k : ℕ) → get_or after k false ≡ (get_or before k false || lies_in first end k))
    → ((k : ℕ) → lies_in first end k ≡ covers kind r k) → AreAdded kind (r ∷ []) before after
one_added kind r first end before after size marks places = record {
  size = size;
  marks = λ k. marks k ∙ ap (λ b. get_or before k false || b) (places k ∙ sym (or-false (covers kind r k)));
}

-- the count of a set that has room for so many places
pub counted_in : (before after : List Bool) (added size : ℕ) → length before ≡ size
    → added + count_below (length before) (λ k. get_or before k false)
    ≡ count_below (length before) (λ k. get_or after k false)
    → added + count_below size (λ k. get_or before k false) ≡ count_below size (λ k. get_or after k false)
counted_in before after added size e counted =
    subst (λ n. added + count_below n (λ k. get_or before k false) ≡ count_below n (λ k. get_or after k false)) e
    counted

-- ---- a range that lies in one block has one place of each kind

empty_span : (at k : ℕ) → lies_in at at k ≡ false
empty_span at k =
    by_way (cases_lt k at)
    (λ low. and_left (leb at k) (ltb k at) (lt-leb at k low))
    (λ high. and_right (leb at k) (ltb k at) (le-ltb k at high))

-- one number is marked
marks_one : (before : List Bool) (at k : ℕ) → at < length before
    → get_or (set before at true) k false ≡ (get_or before k false || lies_in at (at + 1) k)
marks_one before at k lt =
    by_way (cases_eq k at)
    (λ e.
    ap (λ j. get_or (set before at true) j false) e ∙ get_or-set_same before at true false lt
    ∙ sym (ap (λ j. get_or before j false || lies_in at (at + 1) j) e
    ∙ ap (λ b. get_or before at false || b) (lies_last at at (omega arith)) ∙ or-true (get_or before at false)))
    (λ ne.
    get_or-set_other before at k true false ne
    ∙ sym (ap (λ b. get_or before k false || b) (lies_next at at k ne ∙ empty_span at k)
    ∙ or-false (get_or before k false)))

same_place : (kind : Kind) (a b : ℕ) → a / 128 ≡ b / 128 → a / size_of kind ≡ b / size_of kind
same_place Line a b e = omega (arith, e)
same_place FetchedLine a b e = omega (arith, e)
same_place StoredLine a b e = omega (arith, e)
same_place StoredBlock a b e = e

pub record IsInBlock (r : Range) : Type 0 where
  pub some : 0 < r.length
  pub block : (r.first + r.length - 1) / 128 ≡ r.first / 128

only_place : (kind : Kind) (r : Range) (k : ℕ) → IsInBlock r → records kind r.store ≡ true
    → lies_in (r.first / size_of kind) (r.first / size_of kind + 1) k ≡ covers kind r k
only_place kind r k inside recorded =
    ap (λ n. lies_in (r.first / size_of kind) (n + 1) k)
    (sym (same_place kind (r.first + r.length - 1) r.first inside.block))
    ∙ span_is (size_of kind) r k (some_size kind) inside.some
    ∙ ap (λ b. b && has_place (size_of kind) r k) (sym recorded)

-- its place of a kind is marked
pub only_added : (kind : Kind) (r : Range) (before after : List Bool) → IsInBlock r → records kind r.store ≡ true
    → r.first / size_of kind < length before → after ≡ set before (r.first / size_of kind) true
    → AreAdded kind (r ∷ []) before after
only_added kind r before after inside recorded lt e =
    let at : ℕ = r.first / size_of kind in
    one_added kind r at (at + 1) before after (ap length e ∙ length-set before at true)
    (λ k. ap (λ s. get_or s k false) e ∙ marks_one before at k lt)
    (λ k. only_place kind r k inside recorded)

-- of a kind that is not recorded there is nothing to mark
pub none_added : (kind : Kind) (r : Range) (before : List Bool) → records kind r.store ≡ false
    → AreAdded kind (r ∷ []) before before
none_added kind r before off = record {
  size = refl;
  marks = λ k. sym (ap (λ b. get_or before k false || b)
      (or-false (covers kind r k) ∙ and_left (records kind r.store) (has_place (size_of kind) r k) off)
      ∙ or-false (get_or before k false));
}

-- and it counts where it was not marked
pub only_counted : (before after : List Bool) (at added size : ℕ) → length before ≡ size → at < size
    → after ≡ set before at true → added ≡ from_bool (not (get_or before at false))
    → added + count_below size (λ k. get_or before k false) ≡ count_below size (λ k. get_or after k false)
only_counted before after at added size is lt e new =
    let more = count_set size before at lt (sym is) in
    let same = ap (λ s. count_below size (λ k. get_or s k false)) e in
    omega (arith, more, same, new)

-- what is seen of a footprint to which these were added
pub seen_with : {fetched stored blocks fetched' stored' blocks' : List Bool} {seen : Touched} (ranges : List Range)
    → AreAdded FetchedLine ranges fetched fetched' → AreAdded StoredLine ranges stored stored'
    → AreAdded StoredBlock ranges blocks blocks'
    → record { fetched = fetched; stored = stored; blocks = blocks } ≡ seen
    → sets_of (record { fetched = fetched'; stored = stored'; blocks = blocks' }) ≡ touching (sets_of seen) ranges
seen_with ranges f s b view_is =
    (λ i. record {
      fetched = λ k. f.marks k i;
      stored = λ k. s.marks k i;
      blocks = λ k. b.marks k i;
    })
    ∙ ap (λ (v : Touched). touching (sets_of v) ranges) view_is
