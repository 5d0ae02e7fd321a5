-- The pieces of storage that hold an operand's bytes stand one after the other.
use Rattle.std.proofs.Common.{◌≡◌, ◌≢◌, ℕ, zero, suc, ◌+◌, ◌-◌, ◌*◌, ◌/◌, ◌%◌, ◌^◌, ◌<◌, ◌≤◌, Bool, true, false, ◌&&◌, ◌||◌, cond, eqb, ltb, leb, List, [], ◌∷◌, ◌++◌, map, refl, sym, ap, ◌∙◌, arith}
use Rattle.std.specs.List.{list_any, range_with_len}
use Rattle.std.proofs.Math.Nat.{mul-add-div, div-add-mod}
use Rattle.std.proofs.Math.Nat.{div-mul-le_self}
use Rattle.std.proofs.lemmas.List.FromFn.{map-range_with_len_more}
use Rattle.std.proofs.lemmas.List.Folds.{list_any-append}
use Rattle.std.proofs.lemmas.Bool.{cases_eq, cases_lt, and_from, and_left, and_right, or_left, or_right, le-leb, lt-leb, lt-ltb, le-ltb, eq-eqb, ne_eqb}
use borrow.Enum.Arm.{by_way}
use Rattle.z_regs.specs.declared.ranges.Range.{Range}
use Rattle.z_regs.proofs.Elements.{or_across}
use Rattle.tx_constraint.specs.Bytes.{pieces, first_piece, end_piece, touches_own_page}

-- ---- how the code computes the last piece

pub last_is : (f l size : ℕ) → 0 < size → 0 < l → f / size + (f % size + l - 1) / size ≡ (f + l - 1) / size
last_is f l size some bytes =
    let whole : size * (f / size) + f % size ≡ f = div-add-mod f size in
    let sum : size * (f / size) + (f % size + l - 1) ≡ f + l - 1 = omega arith in
    sym (mul-add-div some (f / size) (f % size + l - 1)) ∙ ap (λ n. n / size) sum

pub few_pieces : (f size : ℕ) → 32 ≤ size → f < 2 ^ 64 → f / size < 2 ^ 59
few_pieces f size least small =
    let back : f / size * size ≤ f = div-mul-le_self f size in
    by_way (cases_lt (f / size) (2 ^ 59)) (λ h. h) (λ large.
    let more : 2 ^ 59 * 32 ≤ f / size * size = grind (arith) in absurd (omega arith))

-- ---- a piece holds a byte exactly where it is between the first and the last

-- the piece behind the last of the first n bytes
abbrev end_of : ℕ → ℕ → ℕ
end_of f n = cond (eqb n 0) (f / 4096) ((f + n - 1) / 4096 + 1)

end_next : (f n : ℕ) → end_of f (n + 1) ≡ (f + n) / 4096 + 1
end_next f n =
    let some : eqb (n + 1) 0 ≡ false = ne_eqb (n + 1) 0 (λ e. absurd (omega arith)) in
    let same : f + (n + 1) - 1 ≡ f + n = omega arith in
    ap (λ b. cond b (f / 4096) ((f + (n + 1) - 1) / 4096 + 1)) some ∙ ap (λ m. m / 4096 + 1) same

end_near : (f n : ℕ) → ((f + n) / 4096 ≤ end_of f n) × (end_of f n ≤ (f + n) / 4096 + 1)
end_near f n = by_way (cases_eq n 0)
    (λ none.
    let e : end_of f n ≡ f / 4096 = ap (λ b. cond b (f / 4096) ((f + n - 1) / 4096 + 1)) (eq-eqb n 0 none) in
    (omega arith, omega arith))
    (λ some.
    let e : end_of f n ≡ (f + n - 1) / 4096 + 1 =
    ap (λ b. cond b (f / 4096) ((f + n - 1) / 4096 + 1)) (ne_eqb n 0 some) in
    (omega arith, omega arith))

same_below : (k e x : ℕ) → x ≤ e → e ≤ x + 1 → k ≢ x → ltb k e ≡ ltb k (x + 1)
same_below k e x low high other = by_way (cases_lt k e)
    (λ below. lt-ltb k e below ∙ sym (lt-ltb k (x + 1) (omega arith)))
    (λ above. le-ltb k e above ∙ sym (le-ltb k (x + 1) (omega arith)))

between : (f k n : ℕ) →
    list_any (λ p. eqb p k) (map (λ a. a / 4096) (range_with_len f n)) ≡
    (leb (f / 4096) k && ltb k (end_of f n))
between f k zero = by_way (cases_lt k (f / 4096))
    (λ below. sym (and_left (leb (f / 4096) k) (ltb k (f / 4096)) (lt-leb (f / 4096) k below)))
    (λ above. sym (and_right (leb (f / 4096) k) (ltb k (f / 4096)) (le-ltb k (f / 4096) above)))
between f k (suc n) =
    let e : suc n ≡ n + 1 = omega arith in
    let quotient : ℕ → ℕ = λ a. a / 4096 in
    let test : ℕ → Bool = λ p. eqb p k in
    let before = map quotient (range_with_len f n) in
    let one_more : map quotient (range_with_len f (suc n)) ≡ before ++ quotient (f + n) ∷ [] =
    ap (λ m. map quotient (range_with_len f m)) e ∙ map-range_with_len_more quotient f n (f + n) refl in
    let goal_side : (leb (f / 4096) k && ltb k (end_of f (suc n))) ≡
    (leb (f / 4096) k && ltb k ((f + n) / 4096 + 1)) =
    ap (λ end. leb (f / 4096) k && ltb k end) (ap (end_of f) e ∙ end_next f n) in
    ap (list_any test) one_more ∙ list_any-append test before (quotient (f + n) ∷ [])
    ∙ by_way (cases_eq k ((f + n) / 4096))
    (λ here.
    or_right (list_any test before) (test (quotient (f + n)) || false)
    (or_left (test (quotient (f + n))) false (eq-eqb _ _ (sym here)))
    ∙ sym (goal_side
    ∙ and_from (leb (f / 4096) k) (ltb k ((f + n) / 4096 + 1)) (le-leb _ _ (omega arith))
    (lt-ltb _ _ (omega arith))))
    (λ other.
    let no : test (quotient (f + n)) ≡ false = ne_eqb _ _ (λ e. other (sym e)) in
    let near = end_near f n in
    (λ i. between f k n i || (no i || false)) ∙ or_false _
    ∙ ap (λ b. leb (f / 4096) k && b) (same_below k (end_of f n) ((f + n) / 4096) near.0 near.1 other)
    ∙ sym goal_side)
  where
    or_false : (b : Bool) → (b || (false || false)) ≡ b
    or_false true = refl
    or_false false = refl

any_of_two : (p q : ℕ → Bool) (xs : List ℕ) → list_any (λ x. p x || q x) xs ≡ (list_any p xs || list_any q xs)
any_of_two p q [] = refl
any_of_two p q (x ∷ xs) = ap (λ b. (p x || q x) || b) (any_of_two p q xs)
    ∙ or_across (p x) (q x) (list_any p xs) (list_any q xs)

-- an operand touches one of two pages exactly where one of them is among its pages
pub near_is : (begin : ℕ) (r : Range) →
    touches_own_page begin r ≡
    ((leb (first_piece 4096 r) (begin / 4096) && ltb (begin / 4096) (end_piece 4096 r)) ||
    (leb (first_piece 4096 r) ((begin + 255) / 4096) && ltb ((begin + 255) / 4096) (end_piece 4096 r)))
near_is begin r =
    any_of_two (λ p. eqb p (begin / 4096)) (λ p. eqb p ((begin + 255) / 4096)) (pieces 4096 r)
    ∙ (λ i. between r.first (begin / 4096) r.length i || between r.first ((begin + 255) / 4096) r.length i)
