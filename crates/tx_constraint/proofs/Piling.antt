-- Octowords that are added one after the other, each once.
use Rattle.std.proofs.Common.{◌≡◌, ℕ, zero, suc, ◌+◌, ◌-◌, ◌/◌, ◌<◌, ◌≤◌, Bool, true, false, cond, eqb, ltb, leb, List, [], ◌∷◌, ◌++◌, length, take, drop, map, Some, refl, sym, ap, ◌∙◌, arith}
use Rattle.std.specs.Prelude.{slice_get}
use Rattle.std.specs.List.{flat_map, fold, range_with_len}
use Rattle.std.proofs.lemmas.List.{take_more, take-append-drop, append-nil}
use Rattle.std.proofs.lemmas.List.Sums.{fold-append}
use Rattle.std.proofs.lemmas.Grind.{flat_map-append}
use Rattle.std.proofs.lemmas.List.FromFn.{map-range_with_len_more}
use Rattle.std.proofs.lemmas.Bool.{cases_eq, eq-eqb, ne_eqb, leb-false, lt-leb, le-ltb}
use Rattle.std.proofs.lemmas.Bool.Decides.{nat_tests}
use borrow.Enum.Arm.{by_way}
use Rattle.z_regs.specs.declared.ranges.Range.{Range}
use Rattle.tx_constraint.specs.Bytes.{pieces, first_piece, end_piece}
use Rattle.z_regs.specs.Rising.{with_number}
use Rattle.tx_constraint.specs.Octowords.{with_octowords}
use Rattle.std.proofs.lemmas.Option.{get_or_from_slice_get, slice_get_within}
use Rattle.tx_constraint.proofs.Lists.{range-split}

-- ---- one octoword

one_longer : (found : List ℕ) (o : ℕ) → length found ≤ length (with_number found o)
one_longer [] o = omega arith
one_longer (x ∷ rest) o = by_order (ltb x o) (eqb x o) (one_longer rest o)
  where
    by_order : (less same : Bool) → length rest ≤ length (with_number rest o)
        → length (x ∷ rest) ≤ length (cond less (x ∷ with_number rest o) (cond same (x ∷ rest) (o ∷ x ∷ rest)))
    by_order true same more = omega (arith, more)
    by_order false true more = omega arith
    by_order false false more = omega arith

-- an octoword that was added is there
again : (found : List ℕ) (o : ℕ) → with_number (with_number found o) o ≡ with_number found o
again [] o = grind (arith, nat_tests)
again (x ∷ rest) o = by_order (ltb x o) (eqb x o) refl refl (again rest o)
  where
    by_order : (less same : Bool) → ltb x o ≡ less → eqb x o ≡ same
        → with_number (with_number rest o) o ≡ with_number rest o
        → with_number (cond less (x ∷ with_number rest o) (cond same (x ∷ rest) (o ∷ x ∷ rest))) o
        ≡ cond less (x ∷ with_number rest o) (cond same (x ∷ rest) (o ∷ x ∷ rest))
    by_order true same p q more =
        ap (λ b. cond b (x ∷ with_number (with_number rest o) o) (cond (eqb x o) (x ∷ with_number rest o) (o ∷ x ∷ with_number rest o))) p
        ∙ ap (λ r. x ∷ r) more
    by_order false true p q more =
        (λ i. cond (p i) (x ∷ with_number rest o) (cond (q i) (x ∷ rest) (o ∷ x ∷ rest)))
    by_order false false p q more =
        ap (λ b. cond b (o ∷ with_number (x ∷ rest) o) (cond (eqb o o) (o ∷ x ∷ rest) (o ∷ o ∷ x ∷ rest))) (le-ltb o o (omega arith))
        ∙ ap (λ b. cond b (o ∷ x ∷ rest) (o ∷ o ∷ x ∷ rest)) (eq-eqb o o refl)

-- ---- several

pub grows : (found os : List ℕ) → length found ≤ length (fold with_number found os)
grows found [] = omega arith
grows found (o ∷ os) = let one = one_longer found o in let rest = grows (with_number found o) os in
    omega arith

-- the first that has no room leaves too many in the end
pub stays_full : (found before after : List ℕ) (o : ℕ) →
    leb (length (with_number (fold with_number found before) o)) 4 ≡ false →
    leb (length (fold with_number found (before ++ o ∷ after))) 4 ≡ false
stays_full found before after o full =
    let split = fold-append with_number found before (o ∷ after) in
    let rest = grows (with_number (fold with_number found before) o) after in
    lt-leb _ _ (omega (arith, leb-false _ _ full, ap length split))

pub range_with : (first end o : ℕ) → first ≤ o → o < end →
    range_with_len first (end - first) ≡ range_with_len first (o - first) ++ o ∷
    range_with_len (o + 1) (end - o - 1)
range_with first end o low high =
    ap (range_with_len first) (e0 low high) ∙ range-split first (o - first) (suc (end - o - 1))
    ∙ ap (λ n. range_with_len first (o - first) ++ n ∷ range_with_len (n + 1) (end - o - 1)) (e1 low)
  where
    e0 : first ≤ o → o < end → end - first ≡ (o - first) + suc (end - o - 1)
    e0 l h = omega arith

    e1 : first ≤ o → first + (o - first) ≡ o
    e1 l = omega arith

pub pile_more : (found : List ℕ) (first o : ℕ) → first ≤ o →
    fold with_number found (range_with_len first (o + 1 - first)) ≡
    with_number (fold with_number found (range_with_len first (o - first))) o
pile_more found first o low =
    let nothing : o + 1 - o - 1 ≡ 0 = omega arith in
    let both : range_with_len first (o + 1 - first) ≡ range_with_len first (o - first) ++ o ∷ [] =
    range_with first (o + 1) o low (omega arith)
    ∙ ap (λ n. range_with_len first (o - first) ++ o ∷ range_with_len (o + 1) n) nothing in
    ap (fold with_number found) both
    ∙ fold-append with_number found (range_with_len first (o - first)) (o ∷ [])

-- ---- octowords of the bytes, and octowords one after the other

abbrev by_bytes : List ℕ → ℕ → ℕ → List ℕ
by_bytes found f n = fold with_number found (map (λ a. a / 32) (range_with_len f n))

abbrev in_turn : List ℕ → ℕ → ℕ → List ℕ
in_turn found first end = fold with_number found (range_with_len first (end - first))

one_byte_more : (found : List ℕ) (f n : ℕ) →
    by_bytes found f (n + 1) ≡ with_number (by_bytes found f n) ((f + n) / 32)
one_byte_more found f n =
    ap (fold with_number found) (map-range_with_len_more (λ a. a / 32) f n (f + n) refl)
    ∙ fold-append with_number found (map (λ a. a / 32) (range_with_len f n)) ((f + n) / 32 ∷ [])

some_bytes : (found : List ℕ) (f n : ℕ) → by_bytes found f (n + 1) ≡ in_turn found (f / 32) ((f + n) / 32 + 1)
some_bytes found f zero =
    let low : f / 32 ≤ (f + 0) / 32 = omega arith in
    let gap : (f + 0) / 32 - f / 32 ≡ 0 = omega arith in
    one_byte_more found f 0
    ∙ sym (pile_more found (f / 32) ((f + 0) / 32) low
    ∙ ap (λ m. with_number (fold with_number found (range_with_len (f / 32) m)) ((f + 0) / 32)) gap)
some_bytes found f (suc n) =
    let e : suc n ≡ n + 1 = omega arith in
    one_byte_more found f (suc n)
    ∙ ap (λ xs. with_number xs ((f + suc n) / 32)) (ap (by_bytes found f) e ∙ some_bytes found f n)
    ∙ by_way (cases_eq ((f + suc n) / 32) ((f + n) / 32))
    (λ same.
    let low : f / 32 ≤ (f + n) / 32 = omega arith in
    let piled = pile_more found (f / 32) ((f + n) / 32) low in
    ap (with_number (in_turn found (f / 32) ((f + n) / 32 + 1))) same
    ∙ ap (λ xs. with_number xs ((f + n) / 32)) piled
    ∙ again (fold with_number found (range_with_len (f / 32) ((f + n) / 32 - f / 32))) ((f + n) / 32)
    ∙ sym piled
    ∙ ap (λ o. in_turn found (f / 32) (o + 1)) (sym same))
    (λ other.
    let next : (f + suc n) / 32 ≡ (f + n) / 32 + 1 = omega arith in
    let low : f / 32 ≤ (f + suc n) / 32 = omega arith in
    ap (λ o. with_number (in_turn found (f / 32) o) ((f + suc n) / 32)) (sym next)
    ∙ sym (pile_more found (f / 32) ((f + suc n) / 32) low))

by_length : (found : List ℕ) (f l : ℕ) →
    by_bytes found f l ≡ in_turn found (f / 32) (cond (eqb l 0) (f / 32) ((f + l - 1) / 32 + 1))
by_length found f zero =
    let nothing : 0 ≡ f / 32 - f / 32 = omega arith in
    ap (λ m. fold with_number found (range_with_len (f / 32) m)) nothing
by_length found f (suc n) =
    let e : suc n ≡ n + 1 = omega arith in
    let last : f + suc n - 1 ≡ f + n = omega arith in
    let some : eqb (suc n) 0 ≡ false = ne_eqb (suc n) 0 (λ none. absurd (omega arith)) in
    ap (by_bytes found f) e ∙ some_bytes found f n
    ∙ ap (in_turn found (f / 32))
    (sym (ap (λ b. cond b (f / 32) ((f + suc n - 1) / 32 + 1)) some ∙ ap (λ m. m / 32 + 1) last))

pub octowords_of_range : (found : List ℕ) (r : Range) →
    fold with_number found (pieces 32 r) ≡
    fold with_number found (range_with_len (first_piece 32 r) (end_piece 32 r - first_piece 32 r))
octowords_of_range found r = by_length found r.first r.length

-- ---- operands in turn

pub octowords_more : (found : List ℕ) (ranges : List Range) (i : ℕ) (r : Range) →
    slice_get ranges i ≡ Some r →
    with_octowords found (take (i + 1) ranges) ≡
    fold with_number (with_octowords found (take i ranges))
    (range_with_len (first_piece 32 r) (end_piece 32 r - first_piece 32 r))
unfolding with_octowords
octowords_more found ranges i r e =
    let more : take (i + 1) ranges ≡ take i ranges ++ r ∷ [] =
    take_more ranges i r (slice_get_within ranges i r e)
    ∙ ap (λ x. take i ranges ++ x ∷ []) (get_or_from_slice_get ranges i r r e) in
    ap (λ rs. fold with_number found (flat_map (pieces 32) rs)) more
    ∙ ap (fold with_number found) (flat_map-append (pieces 32) (take i ranges) (r ∷ [])
    ∙ ap (λ xs. flat_map (pieces 32) (take i ranges) ++ xs) (append-nil (pieces 32 r)))
    ∙ fold-append with_number found (flat_map (pieces 32) (take i ranges)) (pieces 32 r)
    ∙ octowords_of_range (fold with_number found (flat_map (pieces 32) (take i ranges))) r

pub with_octowords-append : (found : List ℕ) (some more : List Range) →
    with_octowords found (some ++ more) ≡ with_octowords (with_octowords found some) more
unfolding with_octowords
with_octowords-append found some more =
    ap (fold with_number found) (flat_map-append (pieces 32) some more)
    ∙ fold-append with_number found (flat_map (pieces 32) some) (flat_map (pieces 32) more)

pub with_octowords-none : (found : List ℕ) → with_octowords found [] ≡ found
unfolding with_octowords
with_octowords-none found = refl

-- the octowords of operands are added one after the other
pub with_octowords-pieces : (found : List ℕ) (ranges : List Range) →
    with_octowords found ranges ≡ fold with_number found (flat_map (pieces 32) ranges)
unfolding with_octowords
with_octowords-pieces found ranges = refl

pub with_octowords_grows : (found : List ℕ) (ranges : List Range) →
    length found ≤ length (with_octowords found ranges)
unfolding with_octowords
with_octowords_grows found ranges = grows found (flat_map (pieces 32) ranges)

-- an operand without room leaves too many in the end
pub stays_full_after : (found : List ℕ) (ranges : List Range) (i : ℕ) (r : Range) →
    slice_get ranges i ≡ Some r →
    leb (length (fold with_number (with_octowords found (take i ranges))
    (range_with_len (first_piece 32 r) (end_piece 32 r - first_piece 32 r)))) 4 ≡ false →
    leb (length (with_octowords found ranges)) 4 ≡ false
stays_full_after found ranges i r e full =
    let so_far = octowords_more found ranges i r e in
    let whole : with_octowords found ranges ≡
    with_octowords (with_octowords found (take (i + 1) ranges)) (drop (i + 1) ranges) =
    ap (with_octowords found) (sym (take-append-drop (i + 1) ranges))
    ∙ with_octowords-append found (take (i + 1) ranges) (drop (i + 1) ranges) in
    let more = with_octowords_grows (with_octowords found (take (i + 1) ranges)) (drop (i + 1) ranges) in
    lt-leb _ _ (omega (arith, leb-false _ _ full, ap length so_far, ap length whole, more))
