-- The rightmost bits of a product are the same with a sign and without.
use Rattle.std.proofs.Common.{◌≡◌, ℕ, zero, suc, ◌<◌, ◌+◌, ◌-◌, ◌*◌, ◌/◌, ◌^◌, ◌%◌, inl, inr, refl, sym, ap}
use Rattle.std.proofs.Common.{◌∙◌, arith}
use Rattle.std.specs.Prelude.{pos, ◌*ℤ◌, neg_ℤ}
use Rattle.std.proofs.lemmas.Nat.{pow_pos, mod-mul-add, div-add-mod'}
use Rattle.std.proofs.Math.Nat.{mul-mod_left, zero-mod, add-mul-mod_self_right}
use Rattle.z_arith.proofs.WholeLemmas.{signed_cases}
use Rattle.z_arith.specs.Whole.{signed, modulo, bits}
use Rattle.z_arith.specs.declared.Width.{Width}
use Rattle.z_arith.specs.declared.Width.TheVariants.{Word, Double}

-- n + 1 and y add up to c times m: y leaves what n lacks to m - 1
lacks : (m n y c : ℕ) → 0 < m → suc n + y ≡ c * m → m - 1 - n % m ≡ y % m
lacks m n y c p e =
    let split : n / m * m + n % m ≡ n = div-add-mod' n m in
    let below : n % m < m = omega arith in
    let room : n / m < c = grind arith in
    let d : ℕ = c - suc (n / m) in
    let parts : c ≡ d + suc (n / m) = omega arith in
    let whole : c * m ≡ (d + suc (n / m)) * m = ap (λ x. x * m) parts in
    let rest : y ≡ d * m + (m - 1 - n % m) = omega arith in
    sym (ap (λ x. x % m) rest ∙ mod-mul-add d m (m - 1 - n % m) (omega arith))

-- x and y add up to a multiple of 2 ^ k: -x leaves what y leaves
negated : (k x y c : ℕ) → x + y ≡ c * 2 ^ k → modulo k (neg_ℤ (pos x)) ≡ y % 2 ^ k
negated k zero y c e = let is : y ≡ c * 2 ^ k =
    omega arith in zero-mod (2 ^ k) ∙ sym (ap (λ n. n % 2 ^ k) is ∙ mul-mod_left c (2 ^ k))
negated k (suc n) y c e = lacks (2 ^ k) n y c (pow_pos k) e

-- two numbers below zero
both_negative : (m a b i j : ℕ) → suc i + a ≡ m → suc j + b ≡ m → suc i * suc j % m ≡ a * b % m
both_negative m a b i j p q =
    let first : (suc i + a) * suc j ≡ m * suc j = ap (λ x. x * suc j) p in
    let second : a * (suc j + b) ≡ a * m = ap (λ x. a * x) q in
    let third : m * (suc j + b) ≡ m * m = ap (λ x. m * x) q in
    let same : suc i * suc j + (a + b) * m ≡ a * b + m * m = omega arith in
    sym (add-mul-mod_self_right (suc i * suc j) (a + b) m) ∙ ap (λ x. x % m) same ∙
    add-mul-mod_self_right (a * b) m m

pub product : (k a b : ℕ) → a < 2 ^ k → b < 2 ^ k → modulo k (signed k a *ℤ signed k b) ≡ a * b % 2 ^ k
product k a b p q =
    elim (signed_cases k a p) [
      | inl e ↦ elim (signed_cases k b q) [
        | inl f ↦ rw (e, f) refl
        | inr n ↦ (let f = n.1 in rw (e, f) (negated k (a * suc n.0) (a * b) a (let g : a * (suc n.0 + b) ≡
            a * 2 ^ k = ap (λ x. a * x) n.2 in omega arith)))
      ]
      | inr m ↦ (let e = m.1 in elim (signed_cases k b q) [
        | inl f ↦ rw (e, f) (negated k (suc m.0 * b) (a * b) b (let g : (suc m.0 + a) * b ≡ 2 ^ k * b =
            ap (λ x. x * b) m.2 in omega arith))
        | inr n ↦ (let f = n.1 in rw (e, f) (both_negative (2 ^ k) a b m.0 n.0 m.2 n.2))
      ])
    ]

-- a doubleword holds the rightmost bits of each width
pub low_product : (w : Width) (a b : ℕ) → a < 2 ^ bits w → b < 2 ^ bits w →
    a * b % 2 ^ 64 % 2 ^ bits w ≡ modulo (bits w) (signed (bits w) a *ℤ signed (bits w) b)
low_product Word a b p q =
    let e : a * b % 2 ^ 64 % 2 ^ 32 ≡ a * b % 2 ^ 32 = omega arith in e ∙ sym (product 32 a b p q)
low_product Double a b p q =
    let e : a * b % 2 ^ 64 % 2 ^ 64 ≡ a * b % 2 ^ 64 = omega arith in e ∙ sym (product 64 a b p q)
