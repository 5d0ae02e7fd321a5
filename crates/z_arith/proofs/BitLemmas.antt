-- The bits that a mask selects, and the first one of a number.
use Rattle.std.proofs.Common.{◌≡◌, ◌≢◌, ℕ, zero, suc, ◌<◌, ◌≤◌, ◌+◌, ◌*◌, ◌/◌, ◌%◌, ◌^◌, inl, inr, true}
use Rattle.std.proofs.Common.{false, nat_eq, min, refl, sym, ap, ◌∙◌, arith}
use Rattle.std.specs.Prelude.{bit_and, if◌then◌else◌}
use Rattle.std.specs.Int.{bit_at}
use Rattle.std.specs.Cmp.{both_ways}
use Rattle.std.specs.List.{list_all}
use Rattle.std.proofs.lemmas.Nat.{pow_pos, and_le_r}
use Rattle.std.proofs.lemmas.Nat.Bits.{bit_at_and, bit_at-lt, bit_at-zero, bit_at_above, same_from_bits_below}
use Rattle.std.proofs.lemmas.Bool.{cases_lt, eq-eqb, eqb-true, and_parts, and_from}
use Rattle.std.proofs.lemmas.Bool.Decides.{eqb_tells}
use Rattle.std.proofs.Math.Nat.{pow-suc, div-eq_of_lt-le}
use Rattle.z_arith.specs.Comparison.{selected, leftmost, test_code, zeros_left}

-- what holds below k and at k holds below k + 1
below_or_at : (k i : ℕ) {P : Type 0} → i < suc k → (i < k → P) → (i ≡ k → P) → P
below_or_at k i l f g = elim (cases_lt i k) [ inl h ↦ f h | inr h ↦ g (omega arith) ]

-- where each selected bit is v, so is the bit of each place that the mask selects
all_at : (v k a m : ℕ) → list_all (λ b. nat_eq b v) (selected k a m) ≡ true → (i : ℕ) → i < k →
    bit_at m i ≡ 1 → bit_at a i ≡ v
unfolding selected
all_at v zero a m t i l o = absurd (omega arith)
all_at v (suc k) a m t i l o =
    elim (eqb_tells (bit_at m k) 1) [
      | inl h ↦ (let e : nat_eq (bit_at m k) 1 ≡ true = h.0 in
          let both = and_parts (nat_eq (bit_at a k) v) (list_all (λ b. nat_eq b v) (selected k a m))
          (rw e at t) in
          below_or_at k i l (λ r. all_at v k a m both.1 i r o) (λ s. ap (λ j. bit_at a j) s ∙
          eqb-true (bit_at a k) v both.0))
      | inr h ↦ (let e : nat_eq (bit_at m k) 1 ≡ false = h.0 in
          below_or_at k i l (λ r. all_at v k a m (rw e at t) i r o) (λ s.
          absurd (h.1 (ap (λ j. bit_at m j) (sym s) ∙ o))))
    ]

-- and the other way round
all_from : (v k a m : ℕ) → ((i : ℕ) → i < k → bit_at m i ≡ 1 → bit_at a i ≡ v) →
    list_all (λ b. nat_eq b v) (selected k a m) ≡ true
unfolding selected
all_from v zero a m f = refl
all_from v (suc k) a m f =
    let rest : list_all (λ b. nat_eq b v) (selected k a m) ≡ true =
    all_from v k a m (λ i l o. f i (omega arith) o) in
    elim (eqb_tells (bit_at m k) 1) [
      | inl h ↦ (let e : nat_eq (bit_at m k) 1 ≡ true = h.0 in
          rw e (and_from (nat_eq (bit_at a k) v) (list_all (λ b. nat_eq b v) (selected k a m))
          (eq-eqb (bit_at a k) v (f k (omega arith) h.1)) rest))
      | inr h ↦ (let e : nat_eq (bit_at m k) 1 ≡ false = h.0 in rw e rest)
    ]

-- the lesser of two bits, where the first is known if the second is one
least_zero : (x y : ℕ) → y < 2 → (y ≡ 1 → x ≡ 0) → min x y ≡ 0
least_zero x y h f =
    elim (eqb_tells y 1) [ inl e ↦ omega (arith, f e.1, e.1) | inr e ↦ (let n : y ≢ 1 = e.1 in omega arith) ]

least_second : (x y : ℕ) → y < 2 → (y ≡ 1 → x ≡ 1) → min x y ≡ y
least_second x y h f =
    elim (eqb_tells y 1) [ inl e ↦ omega (arith, f e.1, e.1) | inr e ↦ (let n : y ≢ 1 = e.1 in omega arith) ]

-- all selected bits are zero exactly where the two have no one in common
pub all_zeros : (k a m : ℕ) → m < 2 ^ k → list_all (λ b. nat_eq b 0) (selected k a m) ≡ nat_eq (bit_and a m) 0
all_zeros k a m h =
    both_ways _ _
    (λ t. eq-eqb (bit_and a m) 0 (same_from_bits_below k (bit_and a m) 0 (omega (arith, and_le_r a m))
    (pow_pos k) (λ i l.
    bit_at_and a m i ∙ least_zero (bit_at a i) (bit_at m i) (bit_at-lt m i) (all_at 0 k a m t i l) ∙
    sym (bit_at-zero i))))
    (λ t. all_from 0 k a m (λ i l o.
    let both : bit_at (bit_and a m) i ≡ min (bit_at a i) (bit_at m i) = bit_at_and a m i in
    let none : bit_at (bit_and a m) i ≡ 0 =
    ap (λ n. bit_at n i) (eqb-true (bit_and a m) 0 t) ∙ bit_at-zero i in
    omega arith))

-- all selected bits are ones exactly where they are all that the mask has
pub all_ones : (k a m : ℕ) → m < 2 ^ k → list_all (λ b. nat_eq b 1) (selected k a m) ≡ nat_eq (bit_and a m) m
all_ones k a m h =
    both_ways _ _
    (λ t. eq-eqb (bit_and a m) m (same_from_bits_below k (bit_and a m) m (omega (arith, and_le_r a m)) h
    (λ i l.
    bit_at_and a m i ∙ least_second (bit_at a i) (bit_at m i) (bit_at-lt m i) (all_at 1 k a m t i l))))
    (λ t. all_from 1 k a m (λ i l o.
    let both : bit_at (bit_and a m) i ≡ min (bit_at a i) (bit_at m i) = bit_at_and a m i in
    let same : bit_at (bit_and a m) i ≡ bit_at m i = ap (λ n. bit_at n i) (eqb-true (bit_and a m) m t) in
    let bit : bit_at a i < 2 = bit_at-lt a i in
    omega arith))

-- the place of the first one
top_bit : (j m : ℕ) → 2 ^ j ≤ m → m < 2 * 2 ^ j → bit_at m j ≡ 1
top_bit j m l h =
    let q : m / 2 ^ j ≡ 1 = div-eq_of_lt-le (2 ^ j) (omega arith) (omega arith) in
    ap (λ x. x % 2) q

-- no one stands left of it
above : (m j k : ℕ) → m < 2 * 2 ^ j → j < k → bit_at m k ≡ 0
above m j k h r = bit_at_above m (suc j) k (let twice : 2 ^ suc j ≡ 2 ^ j * 2 = pow-suc 2 j in omega arith) r

-- the leftmost bit that a mask selects is that of the mask's first one
pub leftmost_is : (k a m j : ℕ) → suc j ≤ k → 2 ^ j ≤ m → m < 2 * 2 ^ j →
    leftmost (selected k a m) ≡ bit_at a j
unfolding selected leftmost
leftmost_is zero a m j s l h = absurd (omega arith)
leftmost_is (suc k) a m j s l h =
    below_or_at k j s
    (λ r. let e : nat_eq (bit_at m k) 1 ≡ false =
    ap (λ b. nat_eq b 1) (above m j k h r) in rw e (leftmost_is k a m j r l h))
    (λ r. let e : nat_eq (bit_at m k) 1 ≡ true = ap (λ i. nat_eq (bit_at m i) 1) (sym r) ∙
    ap (λ b. nat_eq b 1) (top_bit j m l h) in rw e (ap (λ i. bit_at a i) (sym r)))

-- zeros stand left of the first one
pub zeros_left_is : (k m j : ℕ) → suc j ≤ k → 2 ^ j ≤ m → m < 2 * 2 ^ j → zeros_left k m + suc j ≡ k
unfolding zeros_left
zeros_left_is zero m j s l h = absurd (omega arith)
zeros_left_is (suc k) m j s l h =
    below_or_at k j s
    (λ r. let e : nat_eq (bit_at m k) 0 ≡ true =
    ap (λ b. nat_eq b 0) (above m j k h r) in rw e (omega (arith, zeros_left_is k m j r l h)))
    (λ r. let e : nat_eq (bit_at m k) 0 ≡ false = ap (λ i. nat_eq (bit_at m i) 0) (sym r) ∙
    ap (λ b. nat_eq b 0) (top_bit j m l h) in rw e (omega arith))

-- the test of the selected bits, by the two operands' bits together
pub test_by_and : (k a m c : ℕ) → m < 2 ^ k → test_code (selected k a m) c ≡ (if nat_eq (bit_and a m) 0 then 0
    else if nat_eq (bit_and a m) m then 3 else c)
test_by_and k a m c h = rw (all_zeros k a m h, all_ones k a m h) refl
