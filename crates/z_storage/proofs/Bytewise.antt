-- Steps of the loops over the bytes of two operands.
use Rattle.std.proofs.Common.{◌≡◌, ℕ, ◌<◌, ◌≤◌, ◌+◌, ◌-◌, List, [], ◌∷◌, ◌++◌, length, get_or, set}
use Rattle.std.proofs.Common.{Bool, true, false, nat_eq, nat_lt, refl, sym, ap, ◌∙◌, arith, inl, inr}
use Rattle.std.proofs.Common.{◌⊎◌}
use Rattle.std.specs.Prelude.{if◌then◌else◌, ◌&&◌}
use Rattle.std.specs.List.{list_all}
use Rattle.std.proofs.lemmas.List.Folds.{list_all-append}
use Rattle.std.proofs.lemmas.Bool.{cases_lt, lt-ltb, le-ltb}
use Rattle.std.proofs.Math.Numerals.{add-one}
use Rattle.z_instr.specs.declared.kind.Combination.{Combination}
use Rattle.z_effect.specs.StorageEffect.{mixed, lead, results}
use Rattle.z_effect.specs.After.{range_at, written}
use Rattle.z_effect.proofs.Stored.{below, above}
use Rattle.z_regs.proofs.OneArea.{in_range}
use Rattle.z_regs.proofs.Writes.{written_none, written_more, inside}
use Rattle.z_effect.proofs.Lengths.{length-results}

-- the second operand's byte of a result, by the results before
abbrev source_byte : ℕ → ℕ → List ℕ → List ℕ → ℕ
source_byte k ahead b before = if nat_lt k ahead then get_or b k 0 else get_or before (k - ahead) 0

-- the next result
results_more : (k : ℕ) (m : Combination) (ahead : ℕ) (a b : List ℕ)
    → results (k + 1) m ahead a b ≡ results k m ahead a b ++
    mixed m (get_or a k 0) (source_byte k ahead b (results k m ahead a b)) ∷ []
unfolding results
results_more k m ahead a b = ap (λ j. results j m ahead a b) (add-one k)

pick : (k h x y v : ℕ) → (k < h → v ≡ x) → (h ≤ k → v ≡ y) → v ≡ (if nat_lt k h then x else y)
pick k h x y v f g =
    elim (cases_lt k h) [
      | inl l ↦ let e : nat_lt k h ≡ true = lt-ltb k h l in rw e (f l)
      | inr l ↦ let e : nat_lt k h ≡ false = le-ltb k h l in rw e (g l)
    ]

both : (t : Bool) (x m : ℕ) → (if t && false then x else m) ≡ m
both true x m = refl
both false x m = refl

-- the first operand begins in the second, behind its first byte; or it does not
abbrev pub Lead : ℕ → ℕ → ℕ → Type 0
Lead n a b = ((b < a) × (a - b < n) × (lead n a b ≡ a - b)) ⊎ (((a ≤ b) ⊎ (n ≤ a - b)) × (lead n a b ≡ n))

pub lead_cases : (n a b : ℕ) → Lead n a b
lead_cases n a b =
    elim (cases_lt b a) [
      | inl l ↦ elim (cases_lt (a - b) n) [
        | inl r ↦ inl (
          l,
          r,
          (let e : nat_lt b a ≡ true =
              lt-ltb b a l in let f : nat_lt (a - b) n ≡ true = lt-ltb (a - b) n r in rw (e, f) refl),
        )
        | inr r ↦ inr (
          inr r,
          (let f : nat_lt (a - b) n ≡ false =
              le-ltb (a - b) n r in rw f (both (nat_lt b a) (a - b) n)),
        )
      ]
      | inr l ↦ inr (inl l, (let e : nat_lt b a ≡ false = le-ltb b a l in rw e refl))
    ]

-- below the lead the second operand's byte is as it was
apart : (s : List ℕ) (a b k n : ℕ) (xs : List ℕ) → length xs ≡ k → a + n ≤ length s → k < n → Lead n a b →
    k < lead n a b
    → get_or (written s a xs) (b + k) 0 ≡ get_or s (b + k) 0
apart s a b k n xs l p q (inl (x, y, z)) w = below s a xs (b + k) (omega arith) (omega (arith, z))
apart s a b k n xs l p q (inr (inl x, z)) w = above s a xs (b + k) (omega arith) (omega (arith, l))
apart s a b k n xs l p q (inr (inr x, z)) w = below s a xs (b + k) (omega arith) (omega (arith, z))

-- from it on, it is a result
within : (s : List ℕ) (a b k n : ℕ) (xs : List ℕ) → length xs ≡ k → a + n ≤ length s → k < n → Lead n a b →
    lead n a b ≤ k
    → get_or (written s a xs) (b + k) 0 ≡ get_or xs (k - lead n a b) 0
within s a b k n xs l p q (inl (x, y, z)) w =
    let e : b + k ≡ a + (k - lead n a b) = omega (arith, z) in
    ap (λ j. get_or (written s a xs) j 0) e ∙ inside s a xs (k - lead n a b) (omega arith) (omega (
      arith,
      l,
      z,
    ))
within s a b k n xs l p q (inr (x, z)) w = absurd (omega (arith, z))

-- The state of the loop: the first k results are written.
abbrev pub made : Combination → List ℕ → ℕ → ℕ → ℕ → ℕ → List ℕ
made m s a b n k = results k m (lead n a b) (range_at s a n) (range_at s b n)

first_byte : (m : Combination) (s : List ℕ) (a b k n : ℕ) → k < n → a + n ≤ length s
    → get_or (written s a (made m s a b n k)) (a + k) 0 ≡ get_or (range_at s a n) k 0
first_byte m s a b k n h p =
    above s a (made m s a b n k) (a + k) (omega arith) (omega (
      arith,
      length-results k m (lead n a b) (range_at s a n) (range_at s b n),
    ))
    ∙ sym (in_range s a n k h)

second_byte : (m : Combination) (s : List ℕ) (a b k n : ℕ) → k < n → a + n ≤ length s
    → get_or (written s a (made m s a b n k)) (b + k) 0 ≡ source_byte k (lead n a b) (range_at s b n)
    (made m s a b n k)
second_byte m s a b k n h p =
    let xs = made m s a b n k in
    let l : length xs ≡ k = length-results k m (lead n a b) (range_at s a n) (range_at s b n) in
    pick k (lead n a b) (get_or (range_at s b n) k 0) (get_or xs (k - lead n a b) 0)
    (get_or (written s a xs) (b + k) 0)
    (λ w. apart s a b k n xs l p h (lead_cases n a b) w ∙ sym (in_range s b n k h))
    (λ w. within s a b k n xs l p h (lead_cases n a b) w)

-- the byte that the loop makes is the next result
made_more : (m : Combination) (s now : List ℕ) (a b k n v : ℕ) → k < n → a + n ≤ length s →
    now ≡ written s a (made m s a b n k)
    → v ≡ mixed m (get_or now (a + k) 0) (get_or now (b + k) 0) → made m s a b n (k + 1) ≡ made m s a b n k ++
    v ∷ []
made_more m s now a b k n v h p e f =
    let xs = made m s a b n k in
    results_more k m (lead n a b) (range_at s a n) (range_at s b n)
    ∙ ap (λ x. xs ++ mixed m x (source_byte k (lead n a b) (range_at s b n) xs) ∷
    []) (sym (first_byte m s a b k n h p))
    ∙ ap (λ y. xs ++ mixed m (get_or (written s a xs) (a + k) 0) y ∷ []) (sym (second_byte m s a b k n h p))
    ∙ ap (λ t. xs ++ mixed m (get_or t (a + k) 0) (get_or t (b + k) 0) ∷ []) (sym e)
    ∙ ap (λ x. xs ++ x ∷ []) (sym f)

-- a byte made of two bytes that were read
pub made_of : (m : Combination) (x y p q v : ℕ) → v ≡ mixed m x y → x ≡ p → y ≡ q → v ≡ mixed m p q
made_of m x y p q v e f g = e ∙ ap (λ z. mixed m z y) f ∙ ap (mixed m p) g

pub stored_none : (m : Combination) (s : List ℕ) (a b n : ℕ) → s ≡ written s a (made m s a b n 0)
unfolding results
stored_none m s a b n = written_none s a

pub zero_none : (m : Combination) (s : List ℕ) (a b n : ℕ) →
    true ≡ list_all (λ x. nat_eq x 0) (made m s a b n 0)
unfolding results
zero_none m s a b n = refl

-- one turn stores the next result
pub stored_step : (m : Combination) (s now new : List ℕ) (a b k n v : ℕ) → k < n → a + n ≤ length s →
    now ≡ written s a (made m s a b n k)
    → v ≡ mixed m (get_or now (a + k) 0) (get_or now (b + k) 0) → new ≡ set now (a + k) v →
    new ≡ written s a (made m s a b n (k + 1))
stored_step m s now new a b k n v h p e f g =
    let xs = made m s a b n k in
    let l : length xs ≡ k = length-results k m (lead n a b) (range_at s a n) (range_at s b n) in
    g
    ∙ ap (λ t. set t (a + k) v) e
    ∙ ap (λ j. set (written s a xs) (a + j) v) (sym l)
    ∙ written_more s a xs v (omega (arith, l))
    ∙ ap (written s a) (sym (made_more m s now a b k n v h p e f))

unit : (t : Bool) → (t && true) ≡ t
unit true = refl
unit false = refl

-- and tells whether it is zero
pub zero_step : (m : Combination) (s now : List ℕ) (a b k n v : ℕ) (before : Bool) → k < n →
    a + n ≤ length s → now ≡ written s a (made m s a b n k)
    → v ≡ mixed m (get_or now (a + k) 0) (get_or now (b + k) 0) →
    before ≡ list_all (λ x. nat_eq x 0) (made m s a b n k)
    → (before && nat_eq v 0) ≡ list_all (λ x. nat_eq x 0) (made m s a b n (k + 1))
zero_step m s now a b k n v before h p e f g =
    let xs = made m s a b n k in
    ap (λ t. t && nat_eq v 0) g
    ∙ ap (λ t. list_all (λ x. nat_eq x 0) xs && t) (sym (unit (nat_eq v 0)))
    ∙ sym (list_all-append (λ x. nat_eq x 0) xs (v ∷ []))
    ∙ ap (list_all (λ x. nat_eq x 0)) (sym (made_more m s now a b k n v h p e f))
