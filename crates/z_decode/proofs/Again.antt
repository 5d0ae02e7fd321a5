-- Bytes whose fields are taken apart by a whole layout are spelled by it again.
use Rattle.std.proofs.Common.{◌≡◌, ℕ, zero, suc, ◌+◌, ◌*◌, ◌/◌, ◌%◌, ◌^◌, ◌<◌, true, false, Bool, ◌&&◌, nat_eq, not, ◌-◌, ◌≤◌, inl, inr}
use Rattle.std.proofs.Common.{List, [], ◌∷◌, if◌then◌else◌, map, length, refl, sym, ap, ap₂, subst, ◌∙◌, arith}
use Rattle.std.proofs.Common.{eq-eqb, lit<}
use Rattle.std.proofs.Math.Nat.{mul-add-div_right, div-div-eq-div-mul, pow-suc, zero-add, zero-div}
use Rattle.std.proofs.lemmas.Bool.{eqb-true, cases_lt}
use Rattle.std.proofs.lemmas.List.{length-map}
use Rattle.std.proofs.lemmas.Nat.{pow-add}
use Rattle.z_instr.specs.declared.layout.Digit.{Digit}
use Rattle.z_instr.specs.declared.layout.Field.{Field}
use Rattle.z_instr.specs.declared.layout.Field.TheVariants.{Opcode, R1, R2, R3, X, B, D, B2, D2, Imm, Mask, Spare}
use Rattle.z_instr.specs.Layouts.{rank, is_of, width, digit, paired, spelled, digits_from, number_in, taken, has, is_once, is_whole}
use Rattle.z_instr.specs.Reading.{AreBytes}
use Rattle.z_instr.proofs.Digits.{power_above, digit_at, not_there, AreDigits, are_digits, unpaired, digits_of_bytes, one_later}
use Rattle.z_instr.proofs.Passing.{and_left, and_right}
use Rattle.z_instr.proofs.Wholes.{rank_own, taken_whole}

-- ---- a digit of a sum of digits

-- a digit that is added in an empty place stands there
own : (h m n : ℕ) → 0 < m → h < 16 → n / m % 16 ≡ 0 → (h * m + n) / m % 16 ≡ h
own h m n a b e =
    let q = n / m in
    ap (λ x. x % 16) (mul-add-div_right a h n) ∙ sum q e
  where
    sum : (q : ℕ) → q % 16 ≡ 0 → (h + q) % 16 ≡ h
    sum q e = omega arith

-- it changes no digit below it
lower : (h i k n : ℕ) → (h * 16 ^ (suc k + i) + n) / 16 ^ k % 16 ≡ n / 16 ^ k % 16
lower h i k n =
    ap (λ x. (x + n) / 16 ^ k % 16)
    (ap (λ p. h * p) (pow-add 16 (suc k) i ∙ ap (λ p. p * 16 ^ i) (pow-suc 16 k)) ∙ turned (16 ^ k) (16 ^ i))
    ∙ ap (λ x. x % 16) (mul-add-div_right (power_above k) (h * 16 ^ i * 16) n)
    ∙ rest (h * 16 ^ i) (n / 16 ^ k)
  where
    turned : (a b : ℕ) → h * (a * 16 * b) ≡ h * b * 16 * a
    turned a b = grind arith

    rest : (v q : ℕ) → (v * 16 + q) % 16 ≡ q % 16
    rest v q = omega arith

-- nor one above it, where its place was empty
higher : (h i j n : ℕ) → h < 16 → n / 16 ^ j % 16 ≡ 0 → (h * 16 ^ j + n) / 16 ^ (suc j + i) % 16 ≡ n / 16 ^ (suc j + i) % 16
higher h i j n a e =
    parted (h * 16 ^ j + n) ∙ ap (λ x. x / 16 / 16 ^ i % 16) (mul-add-div_right (power_above j) h n)
    ∙ ap (λ x. x / 16 ^ i % 16) (same (n / 16 ^ j) e) ∙ sym (parted n)
  where
    same : (q : ℕ) → q % 16 ≡ 0 → (h + q) / 16 ≡ q / 16
    same q e = omega arith

    parted : (n : ℕ) → n / 16 ^ (suc j + i) % 16 ≡ n / 16 ^ j / 16 / 16 ^ i % 16
    parted n =
        ap (λ p. n / p % 16) (pow-add 16 (suc j) i ∙ ap (λ p. p * 16 ^ i) (pow-suc 16 j))
        ∙ ap (λ x. x % 16) (sym (div-div-eq-div-mul n (16 ^ j * 16) (16 ^ i)))
        ∙ ap (λ x. x / 16 ^ i % 16) (sym (div-div-eq-div-mul n (16 ^ j) 16))

-- it changes no other digit
other : (h j k n : ℕ) → h < 16 → n / 16 ^ j % 16 ≡ 0 → nat_eq j k ≡ false →
    (h * 16 ^ j + n) / 16 ^ k % 16 ≡ n / 16 ^ k % 16
other h j k n a e f = elim (cases_lt j k) [
  | inl below ↦ subst (λ m. (h * 16 ^ j + n) / 16 ^ m % 16 ≡ n / 16 ^ m % 16) (over j k below) (higher h (k - suc j) j n a e)
  | inr above ↦ subst (λ m. (h * 16 ^ m + n) / 16 ^ k % 16 ≡ n / 16 ^ k % 16) (over k j (strict j k f above)) (lower h (j - suc k) k n)
]
  where
    over : (j k : ℕ) → j < k → suc j + (k - suc j) ≡ k
    over j k h = omega arith

    strict : (j k : ℕ) → nat_eq j k ≡ false → k ≤ j → k < j
    strict j k f h = grind arith

-- ---- the digits of a field's number

-- no number has no digits
no_digit : (m : ℕ) → 0 / m % 16 ≡ 0
no_digit m = ap (λ x. x % 16) (zero-div m)

-- each digit of the number of a field is what stands in its place
digit_of_number : (ds : List Digit) (hs : List ℕ) (r k : ℕ) → AreDigits hs → is_once ds ≡ true →
    number_in ds hs r / 16 ^ k % 16 ≡ digit_at ds hs r k
digit_of_number [] hs r k a o = no_digit (16 ^ k)
digit_of_number (d ∷ ds) [] r k a o = no_digit (16 ^ k)
digit_of_number (d ∷ ds) (h ∷ hs) r k a o =
    by_field (is_of r d) refl (and_left (not (has ds (rank d.field) d.index)) (is_once ds) o)
    (digit_of_number ds hs r k a.1 (and_right _ _ o)) (digit_of_number ds hs r d.index a.1 (and_right _ _ o))
  where
    by_index : (b : Bool) → nat_eq d.index k ≡ b → number_in ds hs r / 16 ^ d.index % 16 ≡ 0
        → number_in ds hs r / 16 ^ k % 16 ≡ digit_at ds hs r k
        → (h * 16 ^ d.index + number_in ds hs r) / 16 ^ k % 16 ≡ (if b then h else digit_at ds hs r k)
    by_index true e z rest =
        subst (λ m. (h * 16 ^ d.index + number_in ds hs r) / 16 ^ m % 16 ≡ h) (eqb-true _ _ e)
        (own h (16 ^ d.index) (number_in ds hs r) (power_above d.index) a.0 z)
    by_index false e z rest = other h d.index k (number_in ds hs r) a.0 z e ∙ rest

    absent : (q : ℕ) → q ≡ r → not (has ds q d.index) ≡ true → has ds r d.index ≡ false
    absent q e n = subst (λ x. has ds x d.index ≡ false) e (grind arith)

    by_field : (b : Bool) → is_of r d ≡ b → not (has ds (rank d.field) d.index) ≡ true
        → number_in ds hs r / 16 ^ k % 16 ≡ digit_at ds hs r k
        → number_in ds hs r / 16 ^ d.index % 16 ≡ digit_at ds hs r d.index
        → ((if b then h * 16 ^ d.index else 0) + number_in ds hs r) / 16 ^ k % 16
        ≡ (if b && nat_eq d.index k then h else digit_at ds hs r k)
    by_field true e n rest there =
        by_index (nat_eq d.index k) refl
        (there ∙ not_there ds hs r d.index (absent (rank d.field) (eqb-true _ _ e) n)) rest
    by_field false e n rest there = ap (λ m. m / 16 ^ k % 16) (zero-add (number_in ds hs r)) ∙ rest

-- ---- digits that make the same numbers are the same

rank_below : (f : Field) → rank f < 12
rank_below Opcode = lit< tt
rank_below R1 = lit< tt
rank_below R2 = lit< tt
rank_below R3 = lit< tt
rank_below X = lit< tt
rank_below B = lit< tt
rank_below D = lit< tt
rank_below B2 = lit< tt
rank_below D2 = lit< tt
rank_below Imm = lit< tt
rank_below Mask = lit< tt
rank_below Spare = lit< tt

same_digits : (ds : List Digit) (hs gs : List ℕ) → is_once ds ≡ true → length hs ≡ length ds → length gs ≡ length ds →
    ((r k : ℕ) → r < 12 → digit_at ds hs r k ≡ digit_at ds gs r k) → hs ≡ gs
same_digits [] [] [] o l m e = refl
same_digits [] (h ∷ hs) gs o l m e = absurd (omega arith)
same_digits [] [] (g ∷ gs) o l m e = absurd (omega arith)
same_digits (d ∷ ds) [] gs o l m e = absurd (omega arith)
same_digits (d ∷ ds) (h ∷ hs) [] o l m e = absurd (omega arith)
same_digits (d ∷ ds) (h ∷ hs) (g ∷ gs) o l m e =
    ap₂ (λ x xs. x ∷ xs) first
    (same_digits ds hs gs (and_right _ _ o) (omega arith) (omega arith)
    (λ r k b. later r k (is_of r d && nat_eq d.index k) refl (e r k b)))
  where
    here : (is_of (rank d.field) d && nat_eq d.index d.index) ≡ true
    here =
        ap₂ (λ x y. x && y) (eq-eqb (rank d.field) (rank d.field) refl)
        (eq-eqb d.index d.index refl)

    first : h ≡ g
    first =
        subst (λ b. (if b then h else digit_at ds hs (rank d.field) d.index) ≡ (if b then g else digit_at ds gs (rank d.field) d.index))
        here (e (rank d.field) d.index (rank_below d.field))

    absent : (r k : ℕ) → (is_of r d && nat_eq d.index k) ≡ true → has ds r k ≡ false
    absent r k f =
        let once : not (has ds (rank d.field) d.index) ≡ true = and_left _ (is_once ds) o in
        let none : has ds (rank d.field) d.index ≡ false = grind arith in
        subst (λ x. has ds x k ≡ false) (eqb-true _ _ (and_left _ _ f))
        (subst (λ x. has ds (rank d.field) x ≡ false) (eqb-true _ _ (and_right (is_of r d) _ f)) none)

    later : (r k : ℕ) (b : Bool) → (is_of r d && nat_eq d.index k) ≡ b
        → (if b then h else digit_at ds hs r k) ≡ (if b then g else digit_at ds gs r k) → digit_at ds hs r k ≡ digit_at ds gs r k
    later r k true f s = not_there ds hs r k (absent r k f) ∙ sym (not_there ds gs r k (absent r k f))
    later r k false f s = s

-- ---- bytes

paired_again : (bytes : List ℕ) → paired (digits_from (length bytes) 0 bytes) ≡ bytes
paired_again [] = refl
paired_again (x ∷ bytes) =
    ap₂ (λ y ys. y ∷ paired ys) (halves x) (one_later (length bytes) 0 x bytes)
    ∙ ap (λ ys. x ∷ ys) (paired_again bytes)
  where
    halves : (x : ℕ) → x / 16 * 16 + x % 16 ≡ x
    halves x = omega arith

count_digits : (n k : ℕ) (bytes : List ℕ) → length (digits_from n k bytes) ≡ n * 2
count_digits zero k bytes = refl
count_digits (suc n) k bytes =
    let h = count_digits n (suc k) bytes in
    omega arith

-- bytes of which a whole layout takes the numbers are those in which it spells them
pub spelled_again : (ds : List Digit) (bytes : List ℕ) (v : ℕ → ℕ) → is_whole ds ≡ true →
    length ds ≡ 2 * length bytes → AreBytes bytes →
    ((r : ℕ) → r < 12 → taken ds bytes r ≡ v r % 16 ^ width ds r) → bytes ≡ spelled ds v
spelled_again ds bytes v w l b e =
    sym (paired_again bytes) ∙ ap paired same
  where
    n : ℕ
    n = length bytes

    half : length ds / 2 ≡ length bytes
    half = omega (arith, l)

    once : is_once ds ≡ true
    once = and_left (is_once ds) _ w

    spelled_digits : digits_from (length bytes) 0 (spelled ds v) ≡ map (digit v) ds
    spelled_digits = unpaired (length bytes) (map (digit v) ds) (are_digits ds v) (length-map ds (digit v) ∙ omega (arith, l))

    numbers : (r : ℕ) → r < 12 → number_in ds (digits_from (length bytes) 0 bytes) r ≡ number_in ds (map (digit v) ds) r
    numbers r h =
        ap (λ m. number_in ds (digits_from m 0 bytes) r) (sym half) ∙ e r h ∙ sym (taken_whole ds v r w h (rank_own r h))
        ∙ ap (λ m. number_in ds (digits_from m 0 (spelled ds v)) r) half ∙ ap (λ hs. number_in ds hs r) spelled_digits

    same : digits_from (length bytes) 0 bytes ≡ map (digit v) ds
    same =
        same_digits ds (digits_from (length bytes) 0 bytes) (map (digit v) ds) once
        (count_digits (length bytes) 0 bytes ∙ omega (arith, l)) (length-map ds (digit v))
        (λ r k h. sym (digit_of_number ds (digits_from (length bytes) 0 bytes) r k (digits_of_bytes (length bytes) 0 bytes b) once)
        ∙ ap (λ m. m / 16 ^ k % 16) (numbers r h)
        ∙ digit_of_number ds (map (digit v) ds) r k (are_digits ds v) once)
