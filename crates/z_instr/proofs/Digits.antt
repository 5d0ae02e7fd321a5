-- What is spelled by a layout is taken out of it again, for every layout that is whole.
use Rattle.std.proofs.Common.{◌≡◌, ℕ, zero, suc, ◌+◌, ◌*◌, ◌/◌, ◌%◌, ◌^◌, ◌<◌, true, false, Bool, ◌&&◌, nat_eq, nat_lt, not}
use Rattle.std.proofs.Common.{List, [], ◌∷◌, if◌then◌else◌, map, length, get_or, refl, sym, ap, ap₂, subst, ◌∙◌, arith, inl, inr}
use Rattle.std.specs.List.{list_all}
use Rattle.std.proofs.Math.Arith.{mod-mul}
use Rattle.std.proofs.Math.Nat.{pow-suc, zero-add}
use Rattle.std.proofs.lemmas.Bool.{eqb-true, ltb-true, cases_lt}
use Rattle.std.proofs.lemmas.List.{length-map}
use Rattle.std.proofs.lemmas.Nat.{mod_below, mul-add-lt}
use Rattle.z_instr.specs.declared.layout.Digit.{Digit}
use Rattle.z_instr.specs.Layouts.{rank, is_of, width, digit, paired, spelled, digits_from, number_in, taken, has, is_once, has_last}
use Rattle.z_instr.proofs.Passing.{and_left, and_right}

-- ---- sums of digits

-- so many digits as one number
abbrev sum : ℕ → (ℕ → ℕ) → ℕ
sum zero g = 0
sum (suc n) g = g n * 16 ^ n + sum n g

-- a power of sixteen is no zero
pub power_above : (n : ℕ) → 0 < 16 ^ n
power_above zero = omega arith
power_above (suc n) =
    let h = power_above n in
    omega arith

-- sums of the same digits
same_sum : (n : ℕ) (f g : ℕ → ℕ) → ((k : ℕ) → k < n → f k ≡ g k) → sum n f ≡ sum n g
same_sum zero f g h = refl
same_sum (suc n) f g h =
    ap₂ (λ x y. x * 16 ^ n + y) (h n (omega arith)) (same_sum n f g (λ k l. h k (omega arith)))

-- no digits
no_sum : (n : ℕ) → sum n (λ k. 0) ≡ 0
no_sum zero = refl
no_sum (suc n) =
    let h = no_sum n in
    omega arith

-- the digits of a number make its rest
own_sum : (n v : ℕ) → sum n (λ k. v / 16 ^ k % 16) ≡ v % 16 ^ n
own_sum zero v = omega arith
own_sum (suc n) v =
    ap (λ s. v / 16 ^ n % 16 * 16 ^ n + s) (own_sum n v)
    ∙ sym (mod-mul v (omega arith) (power_above n))
    ∙ ap (λ m. v % m) (commuted (16 ^ n) ∙ sym (pow-suc 16 n))
  where
    commuted : (m : ℕ) → 16 * m ≡ m * 16
    commuted m = omega arith

-- one digit put in the place of another
abbrev with_digit : ℕ → ℕ → (ℕ → ℕ) → ℕ → ℕ
with_digit i h g k = if nat_eq i k then h else g k

other_digit : (i h k : ℕ) (g : ℕ → ℕ) → k < i → with_digit i h g k ≡ g k
other_digit i h k g l = grind arith

own_digit : (i h : ℕ) (g : ℕ → ℕ) → with_digit i h g i ≡ h
own_digit i h g = grind arith

past_digit : (i h k : ℕ) (g : ℕ → ℕ) → i < k → with_digit i h g k ≡ g k
past_digit i h k g l = grind arith

-- a digit that was zero adds what it is now
one_more : (n i h : ℕ) (g : ℕ → ℕ) → i < n → g i ≡ 0 → sum n (with_digit i h g) ≡ h * 16 ^ i + sum n g
one_more zero i h g l e = absurd (omega arith)
one_more (suc n) i h g l e = elim (cases_lt i n) [
  | inl below ↦ ap₂ (λ x y. x * 16 ^ n + y) (past_digit i h n g below) (one_more n i h g below e) ∙ swapped (g n * 16 ^ n) (h * 16 ^ i) (sum n g)
  | inr above ↦ last (omega arith)
]
  where
    swapped : (a b c : ℕ) → a + (b + c) ≡ b + (a + c)
    swapped a b c = omega arith

    nothing : (a m s : ℕ) → a ≡ 0 → s ≡ a * m + s
    nothing a m s z =
        let none : s ≡ 0 * m + s = omega arith in
        none ∙ ap (λ x. x * m + s) (sym z)

    last : i ≡ n → sum (suc n) (with_digit i h g) ≡ h * 16 ^ i + sum (suc n) g
    last same =
        ap₂ (λ x y. x * 16 ^ n + y) (subst (λ k. with_digit i h g k ≡ h) same (own_digit i h g))
        (same_sum n (with_digit i h g) g (λ k l. other_digit i h k g (omega arith)))
        ∙ ap₂ (λ x y. h * 16 ^ x + y) (sym same)
        (nothing (g n) (16 ^ n) (sum n g) (subst (λ k. g k ≡ 0) same e))

-- ---- digits by their fields and indices

-- what stands in the place of a field's digit; 0 where there is none
abbrev pub digit_at : List Digit → List ℕ → ℕ → ℕ → ℕ
digit_at [] hs r k = 0
digit_at (d ∷ ds) [] r k = 0
digit_at (d ∷ ds) (h ∷ hs) r k = if is_of r d && nat_eq d.index k then h else digit_at ds hs r k

pub not_there : (ds : List Digit) (hs : List ℕ) (r k : ℕ) → has ds r k ≡ false → digit_at ds hs r k ≡ 0
not_there [] hs r k e = refl
not_there (d ∷ ds) [] r k e = refl
not_there (d ∷ ds) (h ∷ hs) r k e = at_first (is_of r d && nat_eq d.index k) (not_there ds hs r k) e
  where
    at_first : (b : Bool) → (has ds r k ≡ false → digit_at ds hs r k ≡ 0)
        → (if b then true else has ds r k) ≡ false → (if b then h else digit_at ds hs r k) ≡ 0
    at_first true later f = absurd (cc)
    at_first false later f = later f

-- indices below a bound that each field has
abbrev pub is_under : (ℕ → ℕ) → Digit → Bool
is_under most d = nat_lt d.index (most (rank d.field))

-- the number of a field is that of its digits
pub number_is_sum : (most : ℕ → ℕ) (ds : List Digit) (hs : List ℕ) (r : ℕ) → is_once ds ≡ true →
    list_all (is_under most) ds ≡ true → number_in ds hs r ≡ sum (most r) (digit_at ds hs r)
number_is_sum most [] hs r o u = sym (no_sum (most r))
number_is_sum most (d ∷ ds) [] r o u = sym (no_sum (most r))
number_is_sum most (d ∷ ds) (h ∷ hs) r o u =
    let once = and_left (not (has ds (rank d.field) d.index)) (is_once ds) o in
    let rest = number_is_sum most ds hs r (and_right _ _ o) (and_right _ _ u) in
    let low : d.index < most (rank d.field) = ltb-true _ _ (and_left _ _ u) in
    by_field (is_of r d) refl once low rest
  where
    absent : (r : ℕ) → not (has ds r d.index) ≡ true → digit_at ds hs r d.index ≡ 0
    absent r n = not_there ds hs r d.index (grind arith)

    turned : (k : ℕ) → with_digit d.index h (digit_at ds hs r) k ≡ (if true && nat_eq d.index k then h else digit_at ds hs r k)
    turned k = refl

    by_field : (b : Bool) → is_of r d ≡ b → not (has ds (rank d.field) d.index) ≡ true → d.index < most (rank d.field)
        → number_in ds hs r ≡ sum (most r) (digit_at ds hs r)
        → (if is_of r d then h * 16 ^ d.index else 0) + number_in ds hs r ≡ sum (most r) (λ k. if is_of r d && nat_eq d.index k then h else digit_at ds hs r k)
    by_field true e n l rest =
        let same : rank d.field ≡ r = eqb-true _ _ e in
        let sum_is = one_more (most r) d.index h (digit_at ds hs r) (subst (λ q. d.index < most q) same l)
        (absent r (subst (λ q. not (has ds q d.index) ≡ true) same n)) in
        subst (λ b. (if b then h * 16 ^ d.index else 0) + number_in ds hs r ≡ sum (most r) (λ k. if b && nat_eq d.index k then h else digit_at ds hs r k)) (sym e)
        (ap (λ s. h * 16 ^ d.index + s) rest ∙ sym sum_is)
    by_field false e n l rest =
        subst (λ b. (if b then h * 16 ^ d.index else 0) + number_in ds hs r ≡ sum (most r) (λ k. if b && nat_eq d.index k then h else digit_at ds hs r k)) (sym e)
        (zero-add (number_in ds hs r) ∙ rest)

-- what is spelled in the place of a digit
digit_spelled : (ds : List Digit) (v : ℕ → ℕ) (r k : ℕ) → has ds r k ≡ true →
    digit_at ds (map (digit v) ds) r k ≡ v r / 16 ^ k % 16
digit_spelled [] v r k e = absurd (cc)
digit_spelled (d ∷ ds) v r k e =
    at_first (is_of r d && nat_eq d.index k) refl (digit_spelled ds v r k) e
  where
    at_first : (b : Bool) → (is_of r d && nat_eq d.index k) ≡ b
        → (has ds r k ≡ true → digit_at ds (map (digit v) ds) r k ≡ v r / 16 ^ k % 16) → (if b then true else has ds r k) ≡ true
        → (if b then digit v d else digit_at ds (map (digit v) ds) r k) ≡ v r / 16 ^ k % 16
    at_first true f later g =
        ap₂ (λ x y. v x / 16 ^ y % 16) (eqb-true _ _ (and_left _ _ f)) (eqb-true _ _ (and_right (is_of r d) _ f))
    at_first false f later g = later g

all_there : (n : ℕ) (ds : List Digit) (r : ℕ) → has_last n ds r ≡ true → (k : ℕ) → k < n → has ds r k ≡ true
all_there zero ds r e k l = absurd (omega arith)
all_there (suc n) ds r e k l = elim (cases_lt k n) [
  | inl below ↦ all_there n ds r (and_right (has ds r n) _ e) k below
  | inr above ↦ subst (λ j. has ds r j ≡ true) (omega arith) (and_left (has ds r n) (has_last n ds r) e)
]

-- a field's number is what its digits hold of it
pub number_spelled : (ds : List Digit) (v : ℕ → ℕ) (r : ℕ) → is_once ds ≡ true →
    list_all (is_under (width ds)) ds ≡ true → has_last (width ds r) ds r ≡ true →
    number_in ds (map (digit v) ds) r ≡ v r % 16 ^ width ds r
number_spelled ds v r o u f =
    number_is_sum (width ds) ds (map (digit v) ds) r o u
    ∙ same_sum (width ds r) _ _ (λ k l. digit_spelled ds v r k (all_there (width ds r) ds r f k l))
    ∙ own_sum (width ds r) (v r)

-- ---- bytes of two digits

-- each is a digit
abbrev pub AreDigits : List ℕ → Type 0
AreDigits [] = Unit {0}
AreDigits (h ∷ hs) = (h < 16) × AreDigits hs

pub are_digits : (ds : List Digit) (v : ℕ → ℕ) → AreDigits (map (digit v) ds)
are_digits [] v = tt
are_digits (d ∷ ds) v = (mod_below (v (rank d.field) / 16 ^ d.index) 16 (omega arith), are_digits ds v)

pub one_later : (n k x : ℕ) (bytes : List ℕ) → digits_from n (suc k) (x ∷ bytes) ≡ digits_from n k bytes
one_later zero k x bytes = refl
one_later (suc n) k x bytes =
    ap (λ hs. get_or bytes k 0 / 16 ∷ (get_or bytes k 0 % 16 ∷ hs)) (one_later n (suc k) x bytes)

-- the digits of bytes that are made of digits
pub unpaired : (n : ℕ) (hs : List ℕ) → AreDigits hs → length hs ≡ n * 2 → digits_from n 0 (paired hs) ≡ hs
unpaired zero [] h e = refl
unpaired zero (a ∷ hs) h e = absurd (omega arith)
unpaired (suc n) [] h e = absurd (omega arith)
unpaired (suc n) (a ∷ []) h e = absurd (omega arith)
unpaired (suc n) (a ∷ (b ∷ hs)) h e =
    let first : (a * 16 + b) / 16 ≡ a = omega (arith, h.0, h.1.0) in
    let second : (a * 16 + b) % 16 ≡ b = omega (arith, h.0, h.1.0) in
    ap₂ (λ x y. x ∷ (y ∷ digits_from n 1 ((a * 16 + b) ∷ paired hs))) first second
    ∙ ap (λ l. a ∷ (b ∷ l)) (one_later n 0 (a * 16 + b) (paired hs) ∙ unpaired n hs h.1.1 (omega arith))

-- what bytes are spelled by a layout hold
pub taken_spelled : (ds : List Digit) (v : ℕ → ℕ) (r : ℕ) → is_once ds ≡ true →
    list_all (is_under (width ds)) ds ≡ true → has_last (width ds r) ds r ≡ true → length ds ≡ length ds / 2 * 2 →
    taken ds (spelled ds v) r ≡ v r % 16 ^ width ds r
taken_spelled ds v r o u f e =
    ap (λ hs. number_in ds hs r) (unpaired (length ds / 2) (map (digit v) ds) (are_digits ds v) (length-map ds (digit v) ∙ e))
    ∙ number_spelled ds v r o u f

-- what is spelled are bytes
pub paired_bytes : (hs : List ℕ) → AreDigits hs → (k : ℕ) → get_or (paired hs) k 0 < 256
paired_bytes [] h k = omega arith
paired_bytes (a ∷ []) h k = omega arith
paired_bytes (a ∷ (b ∷ hs)) h zero = omega (arith, h.0, h.1.0)
paired_bytes (a ∷ (b ∷ hs)) h (suc k) = paired_bytes hs h.1.1 k

-- ---- what bytes hold has no more digits than the field

sum_below : (n : ℕ) (g : ℕ → ℕ) → ((k : ℕ) → g k < 16) → sum n g < 16 ^ n
sum_below zero g h = omega arith
sum_below (suc n) g h =
    subst (λ m. sum (suc n) g < m) (sym (pow-suc 16 n)) (mul-add-lt (g n) (16 ^ n) (sum n g) 16 (h n) (sum_below n g h))

digit_below : (ds : List Digit) (hs : List ℕ) → AreDigits hs → (r k : ℕ) → digit_at ds hs r k < 16
digit_below [] hs a r k = omega arith
digit_below (d ∷ ds) [] a r k = omega arith
digit_below (d ∷ ds) (h ∷ hs) a r k =
    elim (is_of r d && nat_eq d.index k) as (λ b. (if b then h else digit_at ds hs r k) < 16) [
      | true ↦ a.0
      | false ↦ digit_below ds hs a.1 r k
    ]

pub digits_of_bytes : (n k : ℕ) (bytes : List ℕ) → ((j : ℕ) → get_or bytes j 0 < 256) →
    AreDigits (digits_from n k bytes)
digits_of_bytes zero k bytes b = tt
digits_of_bytes (suc n) k bytes b =
    (omega (arith, b k), (mod_below (get_or bytes k 0) 16 (omega arith), digits_of_bytes n (suc k) bytes b))

pub number_below : (ds : List Digit) (hs : List ℕ) (r : ℕ) → AreDigits hs → is_once ds ≡ true →
    list_all (is_under (width ds)) ds ≡ true → number_in ds hs r < 16 ^ width ds r
number_below ds hs r a o u =
    subst (λ n. n < 16 ^ width ds r) (sym (number_is_sum (width ds) ds hs r o u))
    (sum_below (width ds r) (digit_at ds hs r) (digit_below ds hs a r))
