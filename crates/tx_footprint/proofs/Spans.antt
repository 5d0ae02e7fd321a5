-- The places of a range, by its addresses and as a span.
use Rattle.std.proofs.Common.{◌≡◌, ℕ, ◌+◌, ◌-◌, ◌*◌, ◌/◌, ◌<◌, ◌≤◌, true, false, eqb, ltb, leb, get_or}
use Rattle.std.proofs.Common.{sym, ap, ◌∙◌, arith}
use Rattle.std.specs.List.{range_with_len}
use Rattle.std.proofs.Math.Nat.{div-mul-le_self, le-div_iff_mul-le}
use Rattle.std.proofs.lemmas.Nat.{div-mul-add}
use Rattle.std.proofs.lemmas.Bool.{cases_lt, cases_Bool, eq-eqb, eqb-true, and_parts, and_from, leb-true}
use Rattle.std.proofs.lemmas.Bool.{ltb-true, le-leb, lt-ltb, le-ltb, and_right, false_from_ne_true}
use Rattle.std.proofs.lemmas.List.FromFn.{length-range_with_len, get_or-range_with_len}
use Rattle.std.proofs.lemmas.List.Folds.{Any-from_list_any, list_any_at}
use borrow.Enum.Arm.{by_way}
use Rattle.z_regs.specs.declared.ranges.Range.{Range}
use Rattle.tx_footprint.specs.declared.places.Kind.{Kind}
use Rattle.tx_footprint.specs.declared.places.Kind.TheVariants.{Line, FetchedLine, StoredLine, StoredBlock}
use Rattle.tx_footprint.specs.Places.{has_place, lies_in, size_of, places_of}

-- a range has a place exactly where one of its addresses lies there
pub has_place-from : (size : ℕ) (r : Range) (place address : ℕ) → r.first ≤ address
    → address < r.first + r.length → address / size ≡ place → has_place size r place ≡ true
unfolding has_place
has_place-from size r place address le lt e =
    let within : address - r.first < r.length = omega arith in
    let here : get_or (range_with_len r.first r.length) (address - r.first) 0 ≡ address =
    get_or-range_with_len r.first r.length (address - r.first) 0 within ∙ omega arith in
    list_any_at (λ a. eqb (a / size) place) (range_with_len r.first r.length) (address - r.first) 0
    (omega (arith, within, length-range_with_len r.first r.length))
    (eq-eqb (get_or (range_with_len r.first r.length) (address - r.first) 0 / size) place
    (ap (λ a. a / size) here ∙ e))

pub address_of : (size : ℕ) (r : Range) (place : ℕ) → has_place size r place ≡ true
    → (address : ℕ) × (r.first ≤ address) × (address < r.first + r.length) × (address / size ≡ place)
unfolding has_place
address_of size r place e =
    let found = Any-from_list_any (λ a. eqb (a / size) place) (range_with_len r.first r.length) e in
    let within : found.0 < r.length = omega (arith, found.2, length-range_with_len r.first r.length) in
    let here : found.1 ≡ r.first + found.0 = sym found.3
    ∙ get_or-range_with_len r.first r.length found.0 found.1 within in
    (found.1, omega (arith, here), omega (arith, here, within), eqb-true (found.1 / size) place found.4)

-- quotients rise
quotient_le : (a b size : ℕ) → 0 < size → a ≤ b → a / size ≤ b / size
quotient_le a b size some le = (le-div_iff_mul-le some).1 (omega (arith, div-mul-le_self a size, le))

span_has : (size : ℕ) (r : Range) (place : ℕ) → 0 < size → has_place size r place ≡ true
    → lies_in (r.first / size) ((r.first + r.length - 1) / size + 1) place ≡ true
span_has size r place some e =
    let at = address_of size r place e in
    let from = quotient_le r.first at.0 size some at.1 in
    let to = quotient_le at.0 (r.first + r.length - 1) size some (omega (arith, at.2)) in
    and_from (leb (r.first / size) place) (ltb place ((r.first + r.length - 1) / size + 1))
    (le-leb _ _ (omega (arith, from, at.3))) (lt-ltb _ _ (omega (arith, to, at.3)))

has_span : (size : ℕ) (r : Range) (place : ℕ) → 0 < size → 0 < r.length
    → lies_in (r.first / size) ((r.first + r.length - 1) / size + 1) place ≡ true
    → has_place size r place ≡ true
has_span size r place some bytes e =
    let parts = and_parts (leb (r.first / size) place) (ltb place ((r.first + r.length - 1) / size + 1)) e in
    let from : r.first / size ≤ place = leb-true _ _ parts.0 in
    let below : place < (r.first + r.length - 1) / size + 1 = ltb-true _ _ parts.1 in
    let start : place * size ≤ r.first + r.length - 1 = (le-div_iff_mul-le some).0 (omega (arith, below)) in
    by_way (cases_lt (place * size) r.first)
    (λ before.
    let back : place ≤ r.first / size = (le-div_iff_mul-le some).1 (omega (arith, before)) in
    has_place-from size r place r.first (omega arith) (omega (arith, bytes)) (omega (arith, from, back)))
    (λ inside.
    let exact : (place * size + 0) / size ≡ place = div-mul-add place size 0 some in
    has_place-from size r place (place * size) inside (omega (arith, start, bytes))
    (ap (λ n. n / size) (omega arith) ∙ exact))

-- a range with bytes has the places of a span
pub span_is : (size : ℕ) (r : Range) (place : ℕ) → 0 < size → 0 < r.length
    → lies_in (r.first / size) ((r.first + r.length - 1) / size + 1) place ≡ has_place size r place
span_is size r place some bytes =
    by_way (cases_Bool (has_place size r place))
    (λ set. span_has size r place some set ∙ sym set)
    (λ off. false_from_ne_true (lies_in (r.first / size) ((r.first + r.length - 1) / size + 1) place)
    (λ lies. let n : false ≡ true = sym off ∙ has_span size r place some bytes lies in cc) ∙ sym off)

-- one without bytes has none
pub no_bytes : (size : ℕ) (r : Range) (place : ℕ) → r.length ≡ 0 → has_place size r place ≡ false
no_bytes size r place e =
    false_from_ne_true (has_place size r place) (λ set. let at = address_of size r place set in
    absurd (omega (arith, at.1, at.2, e)))

-- nothing lies in an empty span
pub nothing_in : (k : ℕ) → lies_in 0 0 k ≡ false
nothing_in k = and_right (leb 0 k) (ltb k 0) (le-ltb k 0 (omega arith))

pub some_size : (kind : Kind) → 0 < size_of kind
some_size Line = omega arith
some_size FetchedLine = omega arith
some_size StoredLine = omega arith
some_size StoredBlock = omega arith

pub few_places : (kind : Kind) → places_of kind ≤ 8192
few_places Line = omega arith
few_places FetchedLine = omega arith
few_places StoredLine = omega arith
few_places StoredBlock = omega arith
