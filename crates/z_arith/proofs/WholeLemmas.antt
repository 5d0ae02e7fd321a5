-- Bits, and the numbers that they stand for.
use Rattle.std.proofs.Common.{◌≡◌, ℕ, suc, ◌<◌, ◌≤◌, ◌+◌, ◌-◌, ◌*◌, ◌%◌, ◌^◌, ◌⊎◌, inl, inr, Bool, true}
use Rattle.std.proofs.Common.{false, nat_lt, refl, ap, arith, lit<}
use Rattle.std.specs.Prelude.{ℤ, pos, negsuc, unsigned_abs}
use Rattle.std.proofs.lemmas.Bool.{cases_lt, lt-ltb, le-ltb, ltb-true}
use Rattle.std.proofs.Math.Nat.{pow-suc, mod-eq_of_lt}
use Rattle.z_arith.specs.declared.Width.{Width}
use Rattle.z_arith.specs.declared.Width.TheVariants.{Word, Double}
use Rattle.z_arith.specs.declared.Answer.{Answer}
use Rattle.z_arith.specs.Whole.{bits, signed, modulo, fits_signed}

-- an operand has bits
pub some_bits : (w : Width) → 0 < bits w
some_bits Word = lit< tt
some_bits Double = lit< tt

-- k bits are worth twice their leftmost one
pub halves : (k : ℕ) → 0 < k → 2 ^ k ≡ 2 ^ (k - 1) + 2 ^ (k - 1)
halves k h = let e : k ≡ suc (k - 1) = omega arith in let t : 2 ^ suc (k - 1) ≡ 2 ^ (k - 1) * 2 =
    pow-suc 2 (k - 1) in omega (arith, ap (λ i. 2 ^ i) e, t)

-- k bits stand for their number, or for 2 ^ k less
pub signed_cases : (k a : ℕ) → a < 2 ^ k →
    (signed k a ≡ pos a) ⊎ ((n : ℕ) × (signed k a ≡ negsuc n) × (suc n + a ≡ 2 ^ k))
signed_cases k a h =
    elim (cases_lt a (2 ^ (k - 1))) [
      | inl l ↦ (let e : nat_lt a (2 ^ (k - 1)) ≡ true = lt-ltb a (2 ^ (k - 1)) l in inl (rw e refl))
      | inr l ↦ (let e : nat_lt a (2 ^ (k - 1)) ≡ false =
          le-ltb a (2 ^ (k - 1)) l in inr (2 ^ k - 1 - a, rw e refl, omega arith))
    ]

-- a number that fits is what its bits stand for
pub stands : (k : ℕ) (z : ℤ) → 0 < k → fits_signed k z ≡ true → signed k (modulo k z) ≡ z
stands k (pos n) h t =
    let below : n < 2 ^ (k - 1) = ltb-true n (2 ^ (k - 1)) t in
    let whole : n % 2 ^ k ≡ n = mod-eq_of_lt (let l : n < 2 ^ k = omega (arith, halves k h) in l) in
    rw (whole, t) refl
stands k (negsuc n) h t =
    let below : n < 2 ^ (k - 1) = ltb-true n (2 ^ (k - 1)) t in
    let whole : n % 2 ^ k ≡ n = mod-eq_of_lt (let l : n < 2 ^ k = omega (arith, halves k h) in l) in
    let high : nat_lt (2 ^ k - 1 - n) (2 ^ (k - 1)) ≡ false =
    le-ltb (2 ^ k - 1 - n) (2 ^ (k - 1)) (omega (arith, halves k h)) in
    rw (whole, high) (ap negsuc (let e : 2 ^ k - 1 - (2 ^ k - 1 - n) ≡ n = omega (arith, halves k h) in e))

-- how far from zero k bits reach
pub distance : (k b : ℕ) → 0 < k → b < 2 ^ k → unsigned_abs (signed k b) ≤ 2 ^ (k - 1)
distance k b h l =
    elim (cases_lt b (2 ^ (k - 1))) [
      | inl s ↦ (let e : nat_lt b (2 ^ (k - 1)) ≡ true = lt-ltb b (2 ^ (k - 1)) s in rw e (omega arith))
      | inr s ↦ (let e : nat_lt b (2 ^ (k - 1)) ≡ false =
          le-ltb b (2 ^ (k - 1)) s in rw e (omega (arith, halves k h)))
    ]

-- a number nearer to zero than they reach fits
pub nearer : (k m : ℕ) (z : ℤ) → m ≤ 2 ^ (k - 1) → unsigned_abs z < m → fits_signed k z ≡ true
nearer k m (pos n) h s = lt-ltb n (2 ^ (k - 1)) (omega arith)
nearer k m (negsuc n) h s = lt-ltb n (2 ^ (k - 1)) (omega arith)

-- an answer is its three parts
pub fields : (r : Answer) (v c : ℕ) (o : Bool) → r.value ≡ v → r.condition ≡ c → r.overflow ≡ o →
    r ≡ record { value = v; condition = c; overflow = o }
fields r v c o p q s = λ i. record { value = p i; condition = q i; overflow = s i }
