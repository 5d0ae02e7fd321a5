-- The pieces of a range are those that hold a byte of it.
use Rattle.std.proofs.Common.{◌≡◌, ℕ, ◌<◌, ◌≤◌, ◌+◌, ◌-◌, ◌*◌, ◌/◌, zero, suc, true, false, nat_eq, refl, arith, ◌∙◌, inl, inr}
use Rattle.std.specs.List.{list_any}
use Rattle.std.proofs.lemmas.Bool.{eqb-true, cases_lt}
use Rattle.std.proofs.Common.{ap, add-zero, le_trans}
use Rattle.std.proofs.lemmas.Nat.{le-div}
use Rattle.std.proofs.Math.Nat.{div-mul-le_self, mul-div_left, mul-le-mul_right}
use Rattle.z_instr.specs.Operands.{Span, from_up, pieces, HoldsByteOf}

-- ---- numbers one after the other

among_up : (p first n : ℕ) → list_any (nat_eq p) (from_up first n) ≡ true → (first ≤ p) × (p < first + n)
among_up p first zero h = absurd (cc)
among_up p first (suc n) h =
    elim (nat_eq p first) as (λ b. nat_eq p first ≡ b → (first ≤ p) × (p < first + suc n)) [
      | true ↦ λ e. let f = eqb-true p first e in (omega arith, omega arith)
      | false ↦ λ e. let rest = among_up p (suc first) n (grind arith) in
          (omega (arith, rest.0), omega (arith, rest.1))
    ] refl

up_among : (p first n : ℕ) → first ≤ p → p < first + n → list_any (nat_eq p) (from_up first n) ≡ true
up_among p first zero h k = absurd (omega arith)
up_among p first (suc n) h k =
    elim (nat_eq p first) as (λ b. nat_eq p first ≡ b → list_any (nat_eq p) (from_up first (suc n)) ≡ true) [
      | true ↦ λ e. grind arith
      | false ↦ λ e. let rest = up_among p (suc first) n (grind arith) (omega arith) in grind arith
    ] refl

-- ---- quotients

rising : (size a b : ℕ) → 0 < size → a ≤ b → a / size ≤ b / size
rising size a b h k = le-div (a / size) b size h (le_trans (div-mul-le_self a size) k)

-- the first address of a piece
start_of : (size p : ℕ) → 0 < size → (p * size) / size ≡ p
start_of size p h = mul-div_left p h

behind : (m n : ℕ) → m < n → m + (n - m) ≡ n
behind m n h = omega arith

antisym : (m n : ℕ) → m ≤ n → n ≤ m → m ≡ n
antisym m n h k = omega arith

-- where a piece between the first and the last one has a byte of the range
found : (size p first length : ℕ) → 0 < size → 0 < length → first / size ≤ p →
    p ≤ (first + length - 1) / size → (k : ℕ) × (k < length) × ((first + k) / size ≡ p)
found size p first length h l from to =
    let inside : p * size ≤ first + length - 1 =
    le_trans (mul-le-mul_right size to) (div-mul-le_self (first + length - 1) size) in
    elim (cases_lt first (p * size)) [
      | inl after ↦ (
        p * size - first,
        omega arith,
        ap (λ n. n / size) (behind first (p * size) after)
            ∙ start_of size p h,
      )
      | inr before ↦ (
        0,
        l,
        ap (λ n. n / size) (add-zero first)
            ∙ antisym (first / size) p from (le-div p first size h before),
      )
    ]

-- a piece is among those of a range exactly where it holds a byte of it
pub holds_byte : (size : ℕ) (s : Span) (p : ℕ) → 0 < size → 0 < s.length →
    list_any (nat_eq p) (pieces size s) ≡ true → HoldsByteOf size s p
holds_byte size s p h l among =
    let bounds = among_up p (s.first / size) ((s.first + s.length - 1) / size + 1 - s.first / size) among in
    let order = rising size s.first (s.first + s.length - 1) h (omega arith) in
    found size p s.first s.length h l bounds.0 (omega (arith, bounds.1, order))

pub is_among_pieces : (size : ℕ) (s : Span) (p : ℕ) → 0 < size → 0 < s.length → HoldsByteOf size s p →
    list_any (nat_eq p) (pieces size s) ≡ true
is_among_pieces size s p h l held =
    let low = rising size s.first (s.first + held.0) h (omega arith) in
    let high = rising size (s.first + held.0) (s.first + s.length - 1) h (omega (arith, held.1)) in
    up_among p (s.first / size) ((s.first + s.length - 1) / size + 1 - s.first / size)
    (omega (arith, low, held.2)) (omega (arith, low, high, held.2))
