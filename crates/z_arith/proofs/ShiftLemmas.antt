-- What a shift to the left keeps, and what it loses.
use Rattle.std.proofs.Common.{◌≡◌, ℕ, suc, ◌<◌, ◌≤◌, ◌+◌, ◌-◌, ◌*◌, ◌/◌, ◌^◌, ◌%◌, inl, inr, true, false}
use Rattle.std.proofs.Common.{nat_lt, nat_eq, refl, sym, subst, ap, ◌∙◌, arith, zero-add}
use Rattle.std.proofs.lemmas.Nat.{pow_pos, pow-add, mod-mul-add, div-add-mod', mod_below, mul-add-lt}
use Rattle.std.proofs.lemmas.Nat.{shr_below}
use Rattle.std.proofs.Math.Nat.{mul-div-mul_right, mul-lt-mul_of_pos_right, div-eq_of_lt, div-eq_of_lt-le}
use Rattle.std.proofs.Math.Nat.{div-mul-le_self, mod-eq_of_lt}
use Rattle.std.proofs.lemmas.Bool.{cases_lt, lt-ltb, le-ltb, eq-eqb, ne_eqb, ltb-true}
use Rattle.std.specs.Prelude.{pos, ◌*ℤ◌, not, if◌then◌else◌, Bool}
use Rattle.z_arith.specs.declared.Answer.{Answer}
use Rattle.z_arith.specs.declared.Width.{Width}
use Rattle.z_arith.specs.Whole.{bits, signed, fits_signed, sign_code}
use Rattle.z_arith.proofs.WholeLemmas.{some_bits, halves, fields}
use Rattle.z_arith.specs.Shifted.{rotated, left_signed_of, kept_bits, lost_bits, sign_copies}

-- what k bits keep of a number moved left by n places, and what leaves them
pub kept : (k a n : ℕ) → n ≤ k → a * 2 ^ n % 2 ^ k ≡ a % 2 ^ (k - n) * 2 ^ n
kept k a n h =
    let s : ℕ = 2 ^ (k - n) in
    let p : ℕ = 2 ^ n in
    let whole : 2 ^ k ≡ s * p =
    ap (λ i. 2 ^ i) (let e : k ≡ k - n + n = omega arith in e) ∙ pow-add 2 (k - n) n in
    let parts : a * p ≡ a / s * (s * p) + a % s * p = omega (arith, ap (λ x. x * p) (div-add-mod' a s)) in
    let below : a % s * p < s * p = mul-lt-mul_of_pos_right (mod_below a s (pow_pos (k - n))) (pow_pos n) in
    ap (λ m. a * p % m) whole ∙ ap (λ x. x % (s * p)) parts ∙ mod-mul-add (a / s) (s * p) (a % s * p) below

pub gone : (k a n : ℕ) → n ≤ k → a * 2 ^ n / 2 ^ k ≡ a / 2 ^ (k - n)
gone k a n h =
    let s : ℕ = 2 ^ (k - n) in
    let p : ℕ = 2 ^ n in
    let whole : 2 ^ k ≡ s * p =
    ap (λ i. 2 ^ i) (let e : k ≡ k - n + n = omega arith in e) ∙ pow-add 2 (k - n) n in
    ap (λ m. a * p / m) whole ∙ mul-div-mul_right a s (pow_pos n)

-- a rotation stays within its bits
pub rotated_below : (k a n : ℕ) → n ≤ k → a < 2 ^ k → rotated k a n < 2 ^ k
unfolding rotated
rotated_below k a n h l =
    let s : ℕ = 2 ^ (k - n) in
    let p : ℕ = 2 ^ n in
    let back : k ≡ n + (k - n) = omega arith in
    let whole : 2 ^ k ≡ p * s = ap (λ i. 2 ^ i) back ∙ pow-add 2 n (k - n) in
    let high : a / s < p = shr_below a n (k - n) (subst (λ i. a < 2 ^ i) back l) in
    let sum : a % s * p + a / s < p * s =
    mul-add-lt (a % s) p (a / s) s (mod_below a s (pow_pos (k - n))) high in
    omega (arith, kept k a n h, gone k a n h)

-- a quotient is zero where the dividend is below the divisor
small : (x h : ℕ) → 0 < h → nat_lt x h ≡ nat_eq (x / h) 0
small x h p =
    elim (cases_lt x h) [
      | inl l ↦ lt-ltb x h l ∙ sym (eq-eqb (x / h) 0 (div-eq_of_lt l))
      | inr l ↦ le-ltb x h l ∙ sym (ne_eqb (x / h) 0 (λ e. let q : x / h * h ≡ 0 * h = ap (λ i. i * h) e in
          let s = div-add-mod' x h in let b : x % h < h = mod_below x h p in omega arith))
    ]

-- r is d below h: r times p, divided by h, is p - 1 exactly where d times p is at most h
wide : (h d r p y : ℕ) → r + d ≡ h → 0 < p → suc y ≡ d * p → nat_lt y h ≡ nat_eq (r * p / h) (p - 1)
wide h d r p y e q f =
    let all : (r + d) * p ≡ h * p = ap (λ x. x * p) e in
    let less : (p - 1) * h + h ≡ h * p =
    omega (arith, ap (λ x. x * h) (let g : p ≡ p - 1 + 1 = omega arith in g)) in
    elim (cases_lt y h) [
      | inl l ↦ lt-ltb y h l ∙
          sym (eq-eqb (r * p / h) (p - 1) (div-eq_of_lt-le h (omega arith) (omega arith)))
      | inr l ↦ le-ltb y h l ∙ sym (ne_eqb (r * p / h) (p - 1) (λ g. let most : r * p / h * h ≤ r * p =
          div-mul-le_self (r * p) h in let put : r * p / h * h ≡ (p - 1) * h =
          ap (λ x. x * h) g in omega arith))
    ]

-- of k bits with the leftmost one, the others
others : (k a : ℕ) → 0 < k → 2 ^ (k - 1) ≤ a → a < 2 ^ k → a % 2 ^ (k - 1) + 2 ^ (k - 1) ≡ a
others k a h l b =
    let rest : a - 2 ^ (k - 1) < 2 ^ (k - 1) = omega (arith, halves k h) in
    let parts : a ≡ 1 * 2 ^ (k - 1) + (a - 2 ^ (k - 1)) = omega arith in
    omega (arith, ap (λ x. x % 2 ^ (k - 1)) parts ∙ mod-mul-add 1 (2 ^ (k - 1)) (a - 2 ^ (k - 1)) rest)

-- the number times 2 ^ n fits exactly where all bits that are lost are like the sign
pub fits_where_alike : (k a n : ℕ) → 0 < k → a < 2 ^ k → fits_signed k (signed k a *ℤ pos (2 ^ n)) ≡
    nat_eq (lost_bits k a n) (sign_copies k a n)
fits_where_alike k a n h b =
    elim (cases_lt a (2 ^ (k - 1))) [
      | inl l ↦ (let e : nat_lt a (2 ^ (k - 1)) ≡ true = lt-ltb a (2 ^ (k - 1)) l in
          let f : a % 2 ^ (k - 1) ≡ a = mod-eq_of_lt l in
          rw (e, f) (small (a * 2 ^ n) (2 ^ (k - 1)) (pow_pos (k - 1))))
      | inr l ↦ (let e : nat_lt a (2 ^ (k - 1)) ≡ false = le-ltb a (2 ^ (k - 1)) l in
          let d : ℕ = suc (2 ^ k - 1 - a) in
          let p : ℕ = 2 ^ n in
          let some : 0 < d * p = grind (arith, pow_pos n) in
          let y : ℕ = d * p - 1 in
          let is : d * p ≡ suc y = omega arith in
          let f : a % 2 ^ (k - 1) + d ≡ 2 ^ (k - 1) = omega (arith, others k a h l b, halves k h) in
          rw (e, is) (wide (2 ^ (k - 1)) d (a % 2 ^ (k - 1)) p y f (pow_pos n) (sym is)))
    ]

-- a product that fits has the sign of the value that stands for it
same_sign : (k a n : ℕ) → 0 < k → a < 2 ^ k → fits_signed k (signed k a *ℤ pos (2 ^ n)) ≡ true
    → sign_code (signed k (kept_bits k a n)) ≡ sign_code (signed k a *ℤ pos (2 ^ n))
same_sign k a n h b =
    elim (cases_lt a (2 ^ (k - 1))) [
      | inl l ↦ (let e : nat_lt a (2 ^ (k - 1)) ≡ true = lt-ltb a (2 ^ (k - 1)) l in
          rw e (λ (t : nat_lt (a * 2 ^ n) (2 ^ (k - 1)) ≡ true).
          let f : a * 2 ^ n % 2 ^ (k - 1) ≡ a * 2 ^ n = mod-eq_of_lt (ltb-true (a * 2 ^ n) (2 ^ (k - 1)) t) in
          rw (zero-add, f, t) refl))
      | inr l ↦ (let e : nat_lt a (2 ^ (k - 1)) ≡ false = le-ltb a (2 ^ (k - 1)) l in
          let d : ℕ = suc (2 ^ k - 1 - a) in
          let some : 0 < d * 2 ^ n = grind (arith, pow_pos n) in
          let y : ℕ = d * 2 ^ n - 1 in
          let is : d * 2 ^ n ≡ suc y = omega arith in
          let big : nat_lt (2 ^ (k - 1) + a * 2 ^ n % 2 ^ (k - 1)) (2 ^ (k - 1)) ≡ false =
          le-ltb (2 ^ (k - 1) + a * 2 ^ n % 2 ^ (k - 1)) (2 ^ (k - 1)) (omega arith) in
          rw (e, is) (λ (t : nat_lt y (2 ^ (k - 1)) ≡ true). rw big refl))
    ]

-- the code as the test of the lost bits gives it, and as the fit of the product does
code_is : (f o : Bool) (x y c : ℕ) → o ≡ not f → (f ≡ true → x ≡ y) → c ≡ (if o then 3 else x) →
    c ≡ (if f then y else 3)
code_is true o x y c e h g = g ∙ rw e (h refl)
code_is false o x y c e h g = g ∙ rw e refl

-- what the code settles on is the answer
pub left_is : (w : Width) (a n v : ℕ) (o : Bool) (r : Answer) → a < 2 ^ bits w
    → v ≡ kept_bits (bits w) a n
    → o ≡ not (nat_eq (lost_bits (bits w) a n) (sign_copies (bits w) a n))
    → r.value ≡ v → r.condition ≡ (if o then 3 else sign_code (signed (bits w) v)) → r.overflow ≡ o →
    r ≡ left_signed_of (bits w) a n
unfolding left_signed_of
left_is w a n v o r b p s u c f =
    let k : ℕ = bits w in
    let fits : Bool = fits_signed k (signed k a *ℤ pos (2 ^ n)) in
    let e : fits ≡ nat_eq (lost_bits k a n) (sign_copies k a n) = fits_where_alike k a n (some_bits w) b in
    let g : o ≡ not fits = s ∙ ap not (sym e) in
    let t : r.condition ≡ (if fits then sign_code (signed k a *ℤ pos (2 ^ n)) else 3)
    = code_is fits o (sign_code (signed k v)) (sign_code (signed k a *ℤ pos (2 ^ n))) r.condition g (λ q.
    ap (λ i. sign_code (signed k i)) p ∙ same_sign k a n (some_bits w) b q) c in
    fields r _ _ _ (u ∙ p) t (f ∙ g)
