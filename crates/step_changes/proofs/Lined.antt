-- Lines in lists: those of CPUs, and those that may have changed.
use Rattle.std.proofs.Common.{◌≡◌, ℕ, ◌+◌, ◌/◌, ◌%◌, ◌<◌, ◌≤◌, Bool, true, false, List, [], ◌∷◌, ◌++◌}
use Rattle.std.proofs.Common.{length, get_or, arith, cond, refl, ap, ◌∙◌}
use Rattle.std.specs.Prelude.{◌&&◌, ◌||◌, ◌==◌, map}
use Rattle.std.specs.List.{list_any, filter}
use Rattle.std.proofs.lemmas.Bool.{cases_Bool, and_from, and_parts, or_right, or_left, eqb-true, eq-eqb, both_ways, or_cases}
use Rattle.std.proofs.lemmas.Bool.{le-leb, lt-ltb}
use Rattle.std.proofs.lemmas.List.Folds.{list_any_at, list_any-append}
use Rattle.std.proofs.lemmas.Map.Views.{any-filter_same}
use borrow.Enum.Arm.{by_way}
use Rattle.z_regs.specs.declared.ranges.Range.{Range}
use Rattle.tx_footprint.specs.Places.{has_place, stores}
use Rattle.tx_footprint.proofs.Spans.{address_of}
use Rattle.step_changes.specs.Stored.{has, is_among, in_span, in_spans}
use Rattle.step_changes.specs.declared.stored.StoredLine.{StoredLine}

-- no element passes a test that none passes
pub none_passes : {X : Type 0} (p : X → Bool) (xs : List X) (k : ℕ) (x : X) → list_any p xs ≡ false → k < length xs
    → get_or xs k x ≡ x → p x ≡ false
none_passes p xs k x none low at = by_way (cases_Bool (p x))
    (λ passes. absurd (both_ways (list_any p xs) none (list_any_at p xs k x low (ap p at ∙ passes))))
    (λ fails. fails)

-- one line more is there, and the others too
pub has_new : (lines : List StoredLine) (l : StoredLine) → has (lines ++ l ∷ []) l.cpu l.line ≡ true
has_new lines l =
    let test : StoredLine → Bool = λ (x : StoredLine). x.cpu == l.cpu && x.line == l.line in
    list_any-append test lines (l ∷ [])
    ∙ or_right (list_any test lines) (test l || false)
    (or_left (test l) false (and_from (l.cpu == l.cpu) (l.line == l.line) (eq-eqb l.cpu l.cpu refl)
    (eq-eqb l.line l.line refl)))

pub has_still : (lines more : List StoredLine) (cpu line : ℕ) → has lines cpu line ≡ true
    → has (lines ++ more) cpu line ≡ true
has_still lines more cpu line there =
    let test : StoredLine → Bool = λ (x : StoredLine). x.cpu == cpu && x.line == line in
    list_any-append test lines more ∙ or_left (list_any test lines) (list_any test more) there

-- the lines of a CPU stay there where all of its lines pass the test
pub kept_has : (p : StoredLine → Bool) (cpu line : ℕ) → ((l : StoredLine) → l.cpu ≡ cpu → p l ≡ true)
    → (lines : List StoredLine) → has lines cpu line ≡ true → has (filter p lines) cpu line ≡ true
kept_has p cpu line passes lines there =
    any-filter_same (λ (l : StoredLine). l.cpu == cpu && l.line == line) p true
    (λ l is. passes l (eqb-true l.cpu cpu (and_parts (l.cpu == cpu) (l.line == line) is).0)) lines
    ∙ there

-- the numbers of the lines that pass a test are listed
listed_by : (b : Bool) (n : ℕ) (l : StoredLine) (all rest : List StoredLine)
    → (is_among (map (λ (x : StoredLine). x.line) all) n ≡ true
    → is_among (map (λ (x : StoredLine). x.line) (cond b (l ∷ all) all)) n ≡ true)
listed_by true n l all rest there = or_right (l.line == n) _ there
listed_by false n l all rest there = there

listed_here : (b : Bool) (n : ℕ) (l : StoredLine) (all : List StoredLine) → (l.line == n && b) ≡ true
    → is_among (map (λ (x : StoredLine). x.line) (cond b (l ∷ all) all)) n ≡ true
listed_here true n l all is = or_left (l.line == n) _ (and_parts (l.line == n) true is).0
listed_here false n l all is = absurd (let x : false ≡ true = (and_parts (l.line == n) false is).1 in cc)

pub passing_listed : (p : StoredLine → Bool) (lines : List StoredLine) (n : ℕ)
    → list_any (λ (l : StoredLine). l.line == n && p l) lines ≡ true
    → is_among (map (λ (l : StoredLine). l.line) (filter p lines)) n ≡ true
passing_listed p [] n is = absurd (let x : false ≡ true = is in cc)
passing_listed p (l ∷ rest) n is =
    by_way (or_cases (l.line == n && p l) (list_any (λ (x : StoredLine). x.line == n && p x) rest) is)
    (λ here. listed_here (p l) n l (filter p rest) here)
    (λ later. listed_by (p l) n l (filter p rest) rest (passing_listed p rest n later))

-- a line that a range stores into is between the first and the last
spanned : (r : Range) (line : ℕ) → (r.store && has_place 256 r line) ≡ true → in_span r line ≡ true
spanned r line is =
    let both = and_parts r.store (has_place 256 r line) is in
    let at = address_of 256 r line both.1 in
    let from : r.first ≤ at.0 = at.1 in
    let below : at.0 < r.first + r.length = at.2 in
    let here : at.0 / 256 ≡ line = at.3 in
    let low : r.first / 256 ≤ line = omega arith in
    let high : line < r.first / 256 + (r.first % 256 + r.length + 255) / 256 = omega arith in
    and_from r.store _ both.0 (and_from _ _ (le-leb _ _ low) (lt-ltb _ _ high))

pub all_spanned : (ranges : List Range) (line : ℕ) → stores ranges line ≡ true → in_spans ranges line ≡ true
all_spanned [] line is = is
all_spanned (r ∷ rest) line is =
    by_way (or_cases (r.store && has_place 256 r line) (stores rest line) is)
    (λ here. or_left (in_span r line) _ (spanned r line here))
    (λ later. or_right (in_span r line) _ (all_spanned rest line later))
