-- Bytes of two operands that are combined several at a time.
use Rattle.std.proofs.Common.{◌≡◌, ◌≢◌, ℕ, zero, suc, ◌<◌, ◌≤◌, ◌+◌, ◌-◌, ◌*◌, ◌/◌, ◌%◌, ◌^◌, List, [], ◌∷◌, ◌++◌}
use Rattle.std.proofs.Common.{length, get_or, Bool, true, false, nat_eq, nat_lt, inl, inr, refl, sym, ap, ◌∙◌, arith}
use Rattle.std.proofs.Common.{eq-eqb, ne_eqb, length-append}
use Rattle.std.specs.Prelude.{if◌then◌else◌, ◌&&◌}
use Rattle.std.specs.List.{list_all}
use Rattle.std.specs.Int.{byte_at}
use Rattle.std.proofs.lemmas.Bool.{cases_eq, cases_lt, lt-ltb}
use Rattle.std.proofs.lemmas.List.{ext_get_or, get_or_push, get_or_append_left, get_or-append_right}
use Rattle.std.proofs.lemmas.List.Folds.{list_all-append}
use Rattle.std.proofs.lemmas.Nat.{and_shr, or_shr, xor_shr, and_mod, or_mod, xor_mod}
use Rattle.std.proofs.Math.Nat.{mul-le-mul_right, one-le-pow, mod-eq_of_lt}
use Rattle.byteorder.specs.Endian.{big_bytes}
use Rattle.byteorder.specs.Numbers.{big_from-cons, big_from-bytes, length-bytes_high_first}
use Rattle.byteorder.proofs.Bytes.{pow256}
use borrow.Enum.Arm.{by_way}
use Rattle.z_regs.specs.Written.{range_at, written}
use Rattle.z_regs.proofs.OneArea.{in_range}
use Rattle.z_regs.proofs.Writes.{above, below, written_none, written_then}
use Rattle.z_instr.specs.declared.kind.Logic.{Logic}
use Rattle.z_instr.specs.declared.kind.Logic.TheVariants.{And, Or, ExclusiveOr}
use Rattle.z_instr.specs.declared.kind.Combination.{Combination}
use Rattle.z_instr.specs.declared.kind.Combination.TheVariants as combination
use Rattle.z_effect.specs.Operations.{logic_of}
use Rattle.z_effect.specs.StorageEffect.{mixed, results}
use Rattle.z_storage.proofs.Moves.{Apart}
use Rattle.z_effect.proofs.Lengths.{length-results}

-- ---- results of operands of which no byte is a result

result_at : (k : ℕ) (m : Combination) (n : ℕ) (a b : List ℕ) (i : ℕ) → k ≤ n → i < k
    → get_or (results k m n a b) i 0 ≡ mixed m (get_or a i 0) (get_or b i 0)
unfolding results
result_at zero m n a b i h l = absurd (omega arith)
result_at (suc k) m n a b i h l =
    let before : List ℕ = results k m n a b in
    let size : length before ≡ k = length-results k m n a b in
    let test : nat_lt k n ≡ true = lt-ltb k n (omega (arith, h)) in
    let chosen : (if nat_lt k n then get_or b k 0 else get_or before (k - n) 0) ≡ get_or b k 0 = rw test refl in
    let last : ℕ = mixed m (get_or a k 0) (if nat_lt k n then get_or b k 0 else get_or before (k - n) 0) in
    by_way (cases_lt i k)
    (λ under. get_or_append_left before (last ∷ []) 0 i (omega (arith, size, under))
    ∙ result_at k m n a b i (omega (arith, h)) under)
    (λ from.
    let here : i ≡ k = omega (arith, from, l) in
    get_or_push before last 0 i (omega (arith, size, here))
    ∙ ap (mixed m (get_or a k 0)) chosen
    ∙ ap (λ j. mixed m (get_or a j 0) (get_or b j 0)) (sym here))

-- ---- numbers

-- a byte of the number is that of both bytes
logic_mod : (l : Logic) (x y : ℕ) → logic_of l x y % 256 ≡ logic_of l (x % 256) (y % 256)
logic_mod And x y = and_mod x y 8
logic_mod Or x y = or_mod x y 8
logic_mod ExclusiveOr x y = xor_mod x y 8

logic_shr : (l : Logic) (x y k : ℕ) → logic_of l x y / 2 ^ k ≡ logic_of l (x / 2 ^ k) (y / 2 ^ k)
logic_shr And x y k = and_shr x y k
logic_shr Or x y k = or_shr x y k
logic_shr ExclusiveOr x y k = xor_shr x y k

logic_byte : (l : Logic) (k x y : ℕ) → byte_at k (logic_of l x y) ≡ logic_of l (byte_at k x) (byte_at k y)
logic_byte l zero x y = logic_mod l x y
logic_byte l (suc k) x y =
    ap (λ p. logic_of l x y / p % 256) (pow256 (suc k))
    ∙ ap (λ v. v % 256) (logic_shr l x y (8 * suc k))
    ∙ logic_mod l (x / 2 ^ (8 * suc k)) (y / 2 ^ (8 * suc k))
    ∙ ap (λ p. logic_of l (x / p % 256) (y / p % 256)) (sym (pow256 (suc k)))

logic_bytes : (l : Logic) (n x y i : ℕ) → i < n
    → get_or (big_bytes n (logic_of l x y)) i 0
    ≡ logic_of l (get_or (big_bytes n x) i 0) (get_or (big_bytes n y) i 0)
logic_bytes l zero x y i h = absurd (omega arith)
logic_bytes l (suc n) x y zero h = logic_byte l n x y
logic_bytes l (suc n) x y (suc i) h = logic_bytes l n x y i (omega (arith, h))

pub combined_item : (l : Logic) (n x y v : ℕ) (a b : List ℕ) → big_bytes n x ≡ a → big_bytes n y ≡ b
    → v ≡ logic_of l x y → big_bytes n v ≡ results n (combination.Logic l) n a b
combined_item l n x y v a b e f g =
    let size : length (big_bytes n v) ≡ n = length-bytes_high_first n v in
    ext_get_or 0 _ _ (size ∙ sym (length-results n (combination.Logic l) n a b)) (λ i k.
    let under : i < n = omega (arith, k, size) in
    ap (λ w. get_or (big_bytes n w) i 0) g
    ∙ logic_bytes l n x y i under
    ∙ ap (λ u. logic_of l (get_or u i 0) (get_or (big_bytes n y) i 0)) e
    ∙ ap (λ u. logic_of l (get_or a i 0) (get_or u i 0)) f
    ∙ sym (result_at n (combination.Logic l) n a b i (omega arith) under))

-- ---- zeros

abbrev pub all_zero : List ℕ → Bool
all_zero xs = list_all (λ b. nat_eq b 0) xs

split : (n v : ℕ) → v % 256 ^ suc n ≡ byte_at n v * 256 ^ n + v % 256 ^ n
split n v =
    sym (big_from-bytes (suc n) v [])
    ∙ ap (λ r. byte_at n v * 256 ^ n + r)
    (big_from-cons 0 n (byte_at n v) (big_bytes n v ++ []) ∙ big_from-bytes n v [])

zero_bytes : (n v : ℕ) → all_zero (big_bytes n v) ≡ nat_eq (v % 256 ^ n) 0
zero_bytes zero v = sym (eq-eqb (v % 1) 0 (omega arith))
zero_bytes (suc n) v =
    let rest : Bool = all_zero (big_bytes n v) in
    by_way (cases_eq (byte_at n v) 0)
    (λ e.
    let t : nat_eq (byte_at n v) 0 ≡ true = eq-eqb (byte_at n v) 0 e in
    let none : 0 * 256 ^ n + v % 256 ^ n ≡ v % 256 ^ n = omega arith in
    let same : v % 256 ^ suc n ≡ v % 256 ^ n = split n v ∙ ap (λ b. b * 256 ^ n + v % 256 ^ n) e ∙ none in
    ap (λ b. b && rest) t ∙ zero_bytes n v ∙ ap (λ w. nat_eq w 0) (sym same))
    (λ ne.
    let t : nat_eq (byte_at n v) 0 ≡ false = ne_eqb (byte_at n v) 0 ne in
    let some : 1 * 256 ^ n ≤ byte_at n v * 256 ^ n = mul-le-mul_right (256 ^ n) (omega (arith, ne)) in
    let one : 1 ≤ 256 ^ n = one-le-pow n 256 (omega arith) in
    let much : v % 256 ^ suc n ≢ 0 = λ w. absurd (omega (arith, w, split n v, some, one)) in
    ap (λ b. b && rest) t ∙ sym (ne_eqb (v % 256 ^ suc n) 0 much))

pub zero_item : (n v : ℕ) (xs : List ℕ) → v < 2 ^ (8 * n) → big_bytes n v ≡ xs → nat_eq v 0 ≡ all_zero xs
zero_item n v xs h e =
    let small : v < 256 ^ n = omega (arith, h, pow256 n) in
    ap (λ w. nat_eq w 0) (sym (mod-eq_of_lt small)) ∙ sym (zero_bytes n v) ∙ ap all_zero e

-- ---- a step

module _ (m : Combination) (s : List ℕ) (t b n : ℕ) where
  -- the first c results
  abbrev pub combined : ℕ → List ℕ
  combined c = results c m n (range_at s t n) (range_at s b n)

  pub nothing_combined : s ≡ written s t (combined 0)
  unfolding results
  nothing_combined = written_none s t

  pub none_zero : true ≡ all_zero (combined 0)
  unfolding results
  none_zero = refl

  module _ (now : List ℕ) (c d : ℕ) where
    abbrev pub next : List ℕ
    next = results d m d (range_at now (t + c) d) (range_at now (b + c) d)

    module _ (target_in : t + n ≤ length s) (source_in : b + n ≤ length s) (apart : Apart n t b)
        (fits : c + d ≤ n) (so_far : now ≡ written s t (combined c)) where
      size : length (combined c) ≡ c
      size = length-results c m n (range_at s t n) (range_at s b n)

      -- what is read is as it was
      first_read : (i : ℕ) → c ≤ i → get_or now (t + i) 0 ≡ get_or s (t + i) 0
      first_read i h =
          ap (λ u. get_or u (t + i) 0) so_far
          ∙ above s t (combined c) (t + i) (omega (arith, target_in)) (omega (arith, size, h))

      second_read : (i : ℕ) → c ≤ i → i < n → get_or now (b + i) 0 ≡ get_or s (b + i) 0
      second_read i h l =
          ap (λ u. get_or u (b + i) 0) so_far
          ∙ elim apart [
            | inl low ↦ above s t (combined c) (b + i) (omega (arith, target_in)) (omega (arith, size, h, low))
            | inr high ↦ below s t (combined c) (b + i) (omega (arith, target_in)) (omega (arith, high, l))
          ]

      next_at : (i : ℕ) → c ≤ i → i < c + d → get_or next (i - c) 0
          ≡ mixed m (get_or (range_at s t n) i 0) (get_or (range_at s b n) i 0)
      next_at i h l =
          let j : ℕ = i - c in
          let under : j < d = omega (arith, h, l) in
          let first : t + c + j ≡ t + i = omega (arith, h) in
          let second : b + c + j ≡ b + i = omega (arith, h) in
          let inside : i < n = omega (arith, l, fits) in
          let x : get_or (range_at now (t + c) d) j 0 ≡ get_or (range_at s t n) i 0 =
          in_range now (t + c) d j under ∙ ap (λ k. get_or now k 0) first ∙ first_read i h
          ∙ sym (in_range s t n i inside) in
          let y : get_or (range_at now (b + c) d) j 0 ≡ get_or (range_at s b n) i 0 =
          in_range now (b + c) d j under ∙ ap (λ k. get_or now k 0) second ∙ second_read i h inside
          ∙ sym (in_range s b n i inside) in
          result_at d m d (range_at now (t + c) d) (range_at now (b + c) d) j (omega arith) under
          ∙ ap (λ u. mixed m u (get_or (range_at now (b + c) d) j 0)) x
          ∙ ap (mixed m (get_or (range_at s t n) i 0)) y

      joined : combined (c + d) ≡ combined c ++ next
      joined =
          let whole : length (combined (c + d)) ≡ c + d =
          length-results (c + d) m n (range_at s t n) (range_at s b n) in
          let more : length next ≡ d = length-results d m d (range_at now (t + c) d) (range_at now (b + c) d) in
          ext_get_or 0 _ _ (omega (arith, whole, size, more, length-append (combined c) next)) (λ i k.
          let under : i < c + d = omega (arith, k, whole) in
          result_at (c + d) m n (range_at s t n) (range_at s b n) i fits under
          ∙ sym (by_way (cases_lt i c)
          (λ low. get_or_append_left (combined c) next 0 i (omega (arith, size, low))
          ∙ result_at c m n (range_at s t n) (range_at s b n) i (omega (arith, fits)) low)
          (λ from. get_or-append_right (combined c) next c i 0 size from ∙ next_at i from under)))

      pub combine_step : (new : List ℕ) → new ≡ written now (t + c) next → new ≡ written s t (combined (c + d))
      combine_step new e =
          e
          ∙ ap (λ u. written u (t + c) next) so_far
          ∙ ap (λ j. written (written s t (combined c)) (t + j) next) (sym size)
          ∙ written_then s t (combined c) next (omega (arith, target_in))
          ∙ ap (written s t) (sym joined)

      pub all_zero_step : (before item : Bool) → before ≡ all_zero (combined c) → item ≡ all_zero next
          → (before && item) ≡ all_zero (combined (c + d))
      all_zero_step before item e f =
          ap (λ u. u && item) e ∙ ap (λ u. all_zero (combined c) && u) f
          ∙ sym (list_all-append (λ x. nat_eq x 0) (combined c) next) ∙ ap all_zero (sym joined)
