-- What remainder and quotient are in whole numbers.
use Rattle.std.proofs.Common.{◌≡◌, ℕ, zero, suc, ◌<◌, ◌%◌, ◌^◌, ◌⊎◌, inl, inr, Bool, true, false, nat_eq}
use Rattle.std.proofs.Common.{◌||◌, ◌≢◌, refl, sym, subst, ◌∙◌, arith, zero-le, lit<}
use Rattle.std.specs.Prelude.{ℤ, pos, negsuc, neg_ℤ, int_div, int_rem, unsigned_abs, if◌then◌else◌, not}
use Rattle.std.specs.Prelude.{Result, Ok, Err, IfOk}
use Rattle.std.specs.Int.{is_negative}
use Rattle.std.proofs.lemmas.Int.{quot-rem, rem_below}
use Rattle.std.proofs.lemmas.Bool.{le-ltb, eqb-false}
use Rattle.z_arith.specs.declared.DivideFault.{DivideFault}
use Rattle.z_arith.proofs.WholeLemmas.{stands, distance, nearer}
use Rattle.z_arith.specs.Whole.{signed, modulo, fits_signed}
use Rattle.z_arith.specs.Quotient.{IsDivision, divide_signed_of, divide_word_of, divide_double_of}
use Rattle.z_arith.specs.Quotient.{DividesWord, DividesDouble}

-- the negative of a natural number is zero or below it
negative_sign : (x : ℕ) → (neg_ℤ (pos x) ≡ pos 0) ⊎ (is_negative (neg_ℤ (pos x)) ≡ true)
negative_sign zero = inl refl
negative_sign (suc x) = inr refl

-- the remainder is zero or has the dividend's sign
rem_sign : (a d : ℤ) → (int_rem a d ≡ pos 0) ⊎ (is_negative (int_rem a d) ≡ is_negative a)
rem_sign (pos n) d = inr (le-ltb (n % unsigned_abs d) 0 zero-le ∙ sym (le-ltb n 0 zero-le))
rem_sign (negsuc n) d = negative_sign (suc n % unsigned_abs d)

-- the fault comes by either test
by_tests : (z f : Bool) (x : ℕ × ℕ) (P : ℕ × ℕ → Type 0) → (z ≡ false → f ≡ true → P x)
    → IfOk {T = ℕ × ℕ} {E = DivideFault} (if z || not f then Err (record {}) else Ok x) P
by_tests true f x P h = tt
by_tests false true x P h = h refl refl
by_tests false false x P h = tt

-- what is no fault is a division
pub divides : (k b : ℕ) (n : ℤ) → 0 < k → b < 2 ^ k →
    IfOk (divide_signed_of k n (signed k b)) (λ r. IsDivision n (signed k b) (signed k r.1) (signed k r.0))
divides k b n h l =
    let d : ℤ = signed k b in
    let P : ℕ × ℕ → Type 0 = λ r. IsDivision n d (signed k r.1) (signed k r.0) in
    by_tests (nat_eq (unsigned_abs d) 0) (fits_signed k (int_div n d)) (
      modulo k (int_rem n d),
      modulo k (int_div n d),
    ) P (λ e f.
    let some : 0 < unsigned_abs d =
    (let ne : unsigned_abs d ≢ 0 = eqb-false (unsigned_abs d) 0 e in omega arith) in
    let below : unsigned_abs (int_rem n d) < unsigned_abs d = rem_below n d some in
    let q : signed k (modulo k (int_div n d)) ≡ int_div n d = stands k (int_div n d) h f in
    let r : signed k (modulo k (int_rem n d)) ≡ int_rem n d =
    stands k (int_rem n d) h (nearer k (unsigned_abs d) (int_rem n d) (distance k b h l) below) in
    let plain : IsDivision n d (int_div n d) (int_rem n d) =
    record { whole = quot-rem n d; below = below; sign = rem_sign n d } in
    let half : IsDivision n d (signed k (modulo k (int_div n d))) (int_rem n d) =
    subst (λ (x : ℤ). IsDivision n d x (int_rem n d)) (sym q) plain in
    subst (λ (x : ℤ). IsDivision n d (signed k (modulo k (int_div n d))) x) (sym r) half)

-- the same of the words and doublewords that the calls give
pub divides_word : (n b : ℕ) (x : ℕ × ℕ) → b < 2 ^ 32 → Ok x ≡ divide_word_of n b → DividesWord n b x
unfolding divide_word_of DividesWord
divides_word n b x l e =
    let P : Result (ℕ × ℕ) DivideFault → Type 0 =
    λ r. IfOk r (λ y. IsDivision (signed 64 n) (signed 32 b) (signed 32 y.1) (signed 32 y.0)) in
    subst P (sym e) (divides 32 b (signed 64 n) (lit< tt) l)

pub divides_double : (n b : ℕ) (x : ℕ × ℕ) → b < 2 ^ 64 → Ok x ≡ divide_double_of n b → DividesDouble n b x
unfolding divide_double_of DividesDouble
divides_double n b x l e =
    let P : Result (ℕ × ℕ) DivideFault → Type 0 =
    λ r. IfOk r (λ y. IsDivision (signed 64 n) (signed 64 b) (signed 64 y.1) (signed 64 y.0)) in
    subst P (sym e) (divides 64 b (signed 64 n) (lit< tt) l)
