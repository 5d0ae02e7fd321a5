-- The needed lines are those of the ranges, each once, in rising order.
use Rattle.std.proofs.Common.{◌≡◌, ℕ, zero, suc, ◌+◌, ◌-◌, ◌<◌, ◌≤◌, Bool, true, false, List, []}
use Rattle.std.proofs.Common.{◌∷◌, length, get_or, refl, sym, ap, ◌∙◌, arith}
use Rattle.std.specs.Prelude.{◌||◌, ◌&&◌, ◌==◌, nat_eq, nat_lt, nat_le, if◌then◌else◌, map, All}
use Rattle.std.specs.Prelude.{AllPairs}
use Rattle.std.specs.List.{list_any, flat_map, range_with_len}
use Rattle.std.specs.Cmp.{both_ways}
use Rattle.std.proofs.lemmas.Bool.{cases_eq, or_cases, or_left, or_right, and_parts, and_from}
use Rattle.std.proofs.lemmas.Bool.{eq-eqb, eqb-true, leb-true, ltb-true, ltb-false, eqb-false, le-leb, lt-ltb}
use Rattle.std.proofs.lemmas.List.Folds.{list_any-append}
use Rattle.std.proofs.lemmas.List.Elements.{All-map}
use borrow.Enum.Arm.{by_way}
use Rattle.z_regs.specs.declared.ranges.Range.{Range}
use Rattle.z_regs.specs.Rising.{IsAbove, Ascends}
use Rattle.z_regs.proofs.Rising.{any_all, ascends_all}
use Rattle.line_table.specs.declared.table.Mode.TheVariants.{Shared, Exclusive}
use Rattle.interrogate.specs.Sizes.{line_size}
use Rattle.interrogate.specs.Places.{has_place, lies_in, fetches, stores}
use Rattle.interrogate.proofs.Spans.{span_is, no_bytes}
use Rattle.tx_meaning.specs.declared.asking.Need.{Need}
use Rattle.tx_meaning.specs.Needs.{first_line, last_line, has_line, lines_of, rising, mode_for}
use Rattle.tx_meaning.specs.Needs.{needs_of}
use Rattle.tx_meaning.specs.Changes.{is_needed}
use Rattle.interrogate.proofs.Limits.{either_way}

abbrev has : ℕ → List ℕ → Bool
has x numbers = list_any (λ k. k == x) numbers

-- ---- numbers from one to another

record IsWithin (first end x : ℕ) : Type 0 where
  low : first ≤ x
  high : x < end

in_range : (a n x : ℕ) → has x (range_with_len a n) ≡ true → IsWithin a (a + n) x
in_range a zero x h = let no : false ≡ true = h in absurd (cc)
in_range a (suc n) x h =
    by_way (or_cases (a == x) (has x (range_with_len (a + 1) n)) h)
    (λ e. let same : a ≡ x = eqb-true a x e in record { low = omega arith; high = omega arith })
    (λ later.
    let rest = in_range (a + 1) n x later in
    record { low = omega (arith, rest.low); high = omega (arith, rest.high) })

range_has : (a n x : ℕ) → a ≤ x → x < a + n → has x (range_with_len a n) ≡ true
range_has a zero x low high = absurd (omega arith)
range_has a (suc n) x low high =
    by_way (cases_eq a x)
    (λ e. or_left (a == x) (has x (range_with_len (a + 1) n)) (eq-eqb a x e))
    (λ ne.
    let above : a + 1 ≤ x = omega arith in
    let below : x < a + 1 + n = omega arith in
    or_right (a == x) (has x (range_with_len (a + 1) n)) (range_has (a + 1) n x above below))

lines_between : (first last x : ℕ)
    → has x (range_with_len first (last + 1 - first)) ≡ lies_in first (last + 1) x
lines_between first last x =
    both_ways (has x (range_with_len first (last + 1 - first))) (lies_in first (last + 1) x)
    (λ h.
    let w = in_range first (last + 1 - first) x h in
    let low : first ≤ x = w.low in
    let high : x < last + 1 = omega (arith, w.high) in
    and_from (nat_le first x) (nat_lt x (last + 1)) (le-leb first x low) (lt-ltb x (last + 1) high))
    (λ h.
    let p = and_parts (nat_le first x) (nat_lt x (last + 1)) h in
    let low : first ≤ x = leb-true first x p.0 in
    let high : x < last + 1 = ltb-true x (last + 1) p.1 in
    let within : x < first + (last + 1 - first) = omega arith in
    range_has first (last + 1 - first) x low within)

-- ---- the lines of a range

lines_by : (r : Range) (x : ℕ) (none : Bool) → nat_eq r.length 0 ≡ none
    → has x (if none then [] else range_with_len (first_line r) (last_line r + 1 - first_line r))
    ≡ has_place line_size r x
lines_by r x true e = sym (no_bytes line_size r x (eqb-true r.length 0 e))
lines_by r x false e =
    let off = eqb-false r.length 0 e in
    let some : 0 < r.length = omega arith in
    lines_between (first_line r) (last_line r) x ∙ span_is line_size r x (omega arith) some

lines_are : (r : Range) (x : ℕ) → has x (lines_of r) ≡ has_place line_size r x
lines_are r x = lines_by r x (nat_eq r.length 0) refl

up_to : (x last : ℕ) → nat_le x last ≡ nat_lt x (last + 1)
up_to x last =
    both_ways (nat_le x last) (nat_lt x (last + 1))
    (λ h. let le : x ≤ last = leb-true x last h in lt-ltb x (last + 1) (omega arith))
    (λ h. let lt : x < last + 1 = ltb-true x (last + 1) h in le-leb x last (omega arith))

has_line_by : (r : Range) (x : ℕ) (some : Bool) → nat_lt 0 r.length ≡ some
    → (some && (nat_le (first_line r) x && nat_le x (last_line r))) ≡ has_place line_size r x
has_line_by r x true e =
    let some : 0 < r.length = ltb-true 0 r.length e in
    ap (λ b. nat_le (first_line r) x && b) (up_to x (last_line r)) ∙ span_is line_size r x (omega arith) some
has_line_by r x false e =
    let none = ltb-false 0 r.length e in
    let zero_bytes : r.length ≡ 0 = omega arith in
    sym (no_bytes line_size r x zero_bytes)

has_line_is : (r : Range) (x : ℕ) → has_line x r ≡ has_place line_size r x
has_line_is r x = has_line_by r x (nat_lt 0 r.length) refl

-- ---- the lines of all ranges

all_lines : (ranges : List Range) (x : ℕ)
    → has x (flat_map lines_of ranges) ≡ list_any (λ r. has_place line_size r x) ranges
all_lines [] x = refl
all_lines (r ∷ rest) x =
    list_any-append (λ k. k == x) (lines_of r) (flat_map lines_of rest)
    ∙ ap (λ b. b || has x (flat_map lines_of rest)) (lines_are r x)
    ∙ ap (λ b. has_place line_size r x || b) (all_lines rest x)

fetched_or_stored : (ranges : List Range) (x : ℕ)
    → list_any (λ r. has_place line_size r x) ranges ≡ (fetches ranges x || stores ranges x)
fetched_or_stored [] x = refl
fetched_or_stored (r ∷ rest) x =
    ap (λ b. has_place line_size r x || b) (fetched_or_stored rest x)
    ∙ either_way r.store (has_place line_size r x) (fetches rest x) (stores rest x)

stored_lines : (ranges : List Range) (x : ℕ)
    → list_any (λ r. r.store && has_line x r) ranges ≡ stores ranges x
stored_lines [] x = refl
stored_lines (r ∷ rest) x =
    ap (λ b. (r.store && b) || list_any (λ s. s.store && has_line x s) rest) (has_line_is r x)
    ∙ ap (λ b. (r.store && has_place line_size r x) || b) (stored_lines rest x)

-- ---- in rising order

-- the same numbers
rising_has : (numbers : List ℕ) (x : ℕ) → has x (rising numbers) ≡ has x numbers
rising_has numbers x = any_all (λ k. k == x) [] numbers

-- ---- as needs

abbrev need_at : List Range → ℕ → Need
need_at ranges line = record { line = line; mode = mode_for ranges line }

needed_by : (ranges : List Range) (numbers : List ℕ) (x : ℕ)
    → is_needed (map (need_at ranges) numbers) x ≡ has x numbers
needed_by ranges [] x = refl
needed_by ranges (k ∷ rest) x = ap (λ b. (k == x) || b) (needed_by ranges rest x)

pub needed_lines : (ranges : List Range) (line : ℕ)
    → is_needed (needs_of ranges) line ≡ (fetches ranges line || stores ranges line)
unfolding needs_of
needed_lines ranges line =
    needed_by ranges (rising (flat_map lines_of ranges)) line
    ∙ rising_has (flat_map lines_of ranges) line
    ∙ all_lines ranges line
    ∙ fetched_or_stored ranges line

pub needed_modes : (ranges : List Range)
    → All (λ (need : Need). need.mode ≡ (if stores ranges need.line then Exclusive else Shared))
    (needs_of ranges)
unfolding needs_of
needed_modes ranges =
    let numbers = rising (flat_map lines_of ranges) in
    All-map (λ (need : Need). need.mode ≡ (if stores ranges need.line then Exclusive else Shared))
    (need_at ranges) numbers
    (λ k d lo. ap (λ b. if b then Exclusive else Shared) (stored_lines ranges (get_or numbers k d)))

above_each : (ranges : List Range) (x : ℕ) (numbers : List ℕ) → IsAbove x numbers → Ascends numbers
    → (j : ℕ) (d : Need) → j < length (map (need_at ranges) numbers)
    → x < (get_or (map (need_at ranges) numbers) j d).line
above_each ranges x [] above rises j d lo = absurd (omega arith)
above_each ranges x (k ∷ rest) above rises zero d lo = above
above_each ranges x (k ∷ rest) above rises (suc j) d lo =
    let less : j < length (map (need_at ranges) rest) = omega arith in
    let later = above_each ranges k rest rises.0 rises.1 j d less in
    omega arith

rising_pairs : (ranges : List Range) (numbers : List ℕ) → Ascends numbers
    → AllPairs (λ (a b : Need). a.line < b.line) (map (need_at ranges) numbers)
rising_pairs ranges [] rises i j d lt lo = absurd (omega arith)
rising_pairs ranges (k ∷ rest) rises i zero d lt lo = absurd (omega arith)
rising_pairs ranges (k ∷ rest) rises zero (suc j) d lt lo =
    let less : j < length (map (need_at ranges) rest) = omega arith in
    above_each ranges k rest rises.0 rises.1 j d less
rising_pairs ranges (k ∷ rest) rises (suc i) (suc j) d lt lo =
    let before : i < j = omega arith in
    let less : j < length (map (need_at ranges) rest) = omega arith in
    rising_pairs ranges rest rises.1 i j d before less

pub needs_rise : (ranges : List Range) → AllPairs (λ (a b : Need). a.line < b.line) (needs_of ranges)
unfolding needs_of
needs_rise ranges = rising_pairs ranges (rising (flat_map lines_of ranges))
    (ascends_all [] (flat_map lines_of ranges) tt)
