-- The fields that are taken apart from the bytes of an instruction are its own.
use Rattle.std.proofs.Common.{◌≡◌, ℕ, ◌<◌, ◌≤◌, ◌+◌, ◌-◌, ◌*◌, ◌%◌, ◌^◌, true, false, Bool, ◌||◌, nat_lt, nat_le, nat_eq}
use Rattle.std.proofs.Common.{if◌then◌else◌, arith, refl, sym, ap, subst, ◌∙◌, lt-ltb, le-ltb, lit<}
use Rattle.std.proofs.Math.Nat.{mod-eq_of_lt, pow-le-pow_right}
use Rattle.std.proofs.lemmas.Bool.{eqb-true, leb-true}
use Rattle.std.specs.Prelude.{ℤ, pos, negsuc}
use Rattle.z_instr.specs.declared.instr.Instr.{Instr}
use Rattle.z_instr.specs.declared.instr.Fields.{Fields}
use Rattle.z_instr.specs.Table.{Entry, entry_at}
use Rattle.z_instr.specs.Layouts.{layout_of, width, is_whole, has_signed_immediate, has_signed_displacement}
use Rattle.z_instr.specs.Made.{fields_of}
use Rattle.z_instr.specs.Ranges.{is_within, bounds, bounds_by, limits_of}
use Rattle.z_instr.specs.Reading.{modulo, number_of, spelling}
use Rattle.z_instr.specs.Computing.{fields_in, signed_number, number}
use Rattle.z_instr.proofs.Passing.{and_left, and_right}
use Rattle.z_instr.proofs.Wholes.{whole, is_known, known_at, taken_whole}
use Rattle.z_instr.proofs.Within.{Fits, instr_fits, registers_of, numbers_of}
use Rattle.z_instr.proofs.OneSpelling.{modulo_below}

-- ---- numbers from their bits

-- a number with a sign, from its bits as a number below M, of which those below H have none
abbrev from_bits : ℕ → ℕ → ℕ → ℤ
from_bits H M n = if nat_lt n H then pos n else negsuc (M - 1 - n)

from_zero_up : (H M n : ℕ) → M ≡ H + H → n < H → from_bits H M (n % M) ≡ pos n
from_zero_up H M n m h =
    let e : n % M ≡ n = mod-eq_of_lt (omega arith) in
    rw (e, lt-ltb n H h) refl

below_zero : (H M n : ℕ) → M ≡ H + H → n < H → from_bits H M (M - 1 - n % M) ≡ negsuc n
below_zero H M n m h =
    let e : n % M ≡ n = mod-eq_of_lt (omega arith) in
    let f : M - 1 - (M - 1 - n) ≡ n = omega arith in
    rw (e, le-ltb (M - 1 - n) H (omega arith), f) refl

signed_own : (k : ℕ) (z : ℤ) → 2 ^ k ≡ 2 ^ (k - 1) + 2 ^ (k - 1) →
    is_within (bounds (2 ^ (k - 1)) (2 ^ (k - 1))) z ≡ true → signed_number k (modulo k z) ≡ z
signed_own k (pos n) m h = from_zero_up (2 ^ (k - 1)) (2 ^ k) n m (grind arith)
signed_own k (negsuc n) m h = below_zero (2 ^ (k - 1)) (2 ^ k) n m (grind arith)

-- the last bits of 32
last_8 : (z : ℤ) → modulo 32 z % 16 ^ 2 ≡ modulo 8 z
last_8 (pos n) = omega arith
last_8 (negsuc n) = omega arith

last_16 : (z : ℤ) → modulo 32 z % 16 ^ 4 ≡ modulo 16 z
last_16 (pos n) = omega arith
last_16 (negsuc n) = omega arith

last_20 : (z : ℤ) → modulo 32 z % 16 ^ 5 ≡ modulo 20 z
last_20 (pos n) = omega arith
last_20 (negsuc n) = omega arith

last_32 : (z : ℤ) → modulo 32 z % 16 ^ 8 ≡ modulo 32 z
last_32 z = mod-eq_of_lt (modulo_below 32 z (omega arith))

-- the number of so many digits is the field's own
abbrev Own : Bool → ℤ → ℕ → Type 0
Own signed z n = is_within (bounds_by signed n) z ≡ true → number signed (4 * n) (modulo 32 z % 16 ^ n) ≡ z

-- one of the numbers of digits that a number with a sign has
one_of : (n : ℕ) (P : ℕ → Type 0) → P 2 → P 4 → P 5 → P 8 →
    (nat_eq n 2 || (nat_eq n 4 || (nat_eq n 5 || nat_eq n 8))) ≡ true → P n
one_of n P two four five eight h =
    elim (nat_eq n 2) as (λ b. nat_eq n 2 ≡ b → P n) [
      | true ↦ λ e. subst P (sym (eqb-true n 2 e)) two
      | false ↦ λ e. elim (nat_eq n 4) as (λ b. nat_eq n 4 ≡ b → P n) [
        | true ↦ λ f. subst P (sym (eqb-true n 4 f)) four
        | false ↦ λ f. elim (nat_eq n 5) as (λ b. nat_eq n 5 ≡ b → P n) [
          | true ↦ λ g. subst P (sym (eqb-true n 5 g)) five
          | false ↦ λ g. subst P (sym (eqb-true n 8 (grind arith))) eight
        ] refl
      ] refl
    ] refl

own_signed : (z : ℤ) (n : ℕ) → (nat_eq n 2 || (nat_eq n 4 || (nat_eq n 5 || nat_eq n 8))) ≡ true → Own true z n
own_signed z n =
    one_of n (Own true z)
    (λ h. ap (signed_number 8) (last_8 z) ∙ signed_own 8 z refl h)
    (λ h. ap (signed_number 16) (last_16 z) ∙ signed_own 16 z refl h)
    (λ h. ap (signed_number 20) (last_20 z) ∙ signed_own 20 z refl h)
    (λ h. ap (signed_number 32) (last_32 z) ∙ signed_own 32 z refl h)

own_plain : (z : ℤ) (n : ℕ) → n ≤ 8 → Own false z n
own_plain (pos m) n l h =
    let below : m < 16 ^ n = grind arith in
    let most : 16 ^ n ≤ 16 ^ 8 = pow-le-pow_right (lit< tt) l in
    let all : m % 2 ^ 32 ≡ m = mod-eq_of_lt (omega arith) in
    ap pos (ap (λ k. k % 16 ^ n) all ∙ mod-eq_of_lt below)
own_plain (negsuc m) n l h = absurd (grind arith)

pub own_number : (signed : Bool) (z : ℤ) (n : ℕ) → is_known signed n ≡ true → Own signed z n
own_number true z n k = own_signed z n (and_right (nat_le n 8) _ k)
own_number false z n k = own_plain z n (leb-true n 8 (and_left (nat_le n 8) true k))

-- ---- the fields

record OwnRegisters (f : Fields) (i : Instr) : Type 0 where
  r1 : f.r1 ≡ i.r1
  r2 : f.r2 ≡ i.r2
  r3 : f.r3 ≡ i.r3
  x : f.x ≡ i.x
  b : f.b ≡ i.b
  b2 : f.b2 ≡ i.b2
  mask : f.mask ≡ i.mask

record OwnNumbers (f : Fields) (i : Instr) : Type 0 where
  d : f.d ≡ i.d
  d2 : f.d2 ≡ i.d2
  imm : f.imm ≡ i.imm

own_fields : (f : Fields) (i : Instr) → OwnRegisters f i → OwnNumbers f i → f ≡ fields_of i
own_fields f i g n =
    λ k. record {
      r1 = g.r1 k;
      r2 = g.r2 k;
      r3 = g.r3 k;
      x = g.x k;
      b = g.b k;
      d = n.d k;
      b2 = g.b2 k;
      d2 = n.d2 k;
      imm = n.imm k;
      mask = g.mask k;
    }

-- the fields of an instruction of a row, from its bytes
module _ (i : Instr) where
  abbrev e : Entry
  e = entry_at i.op.number

  abbrev apart : Fields
  apart = fields_in (layout_of e) (has_signed_immediate e) (spelling e i)

  fits : Fits (limits_of e) i
  fits = instr_fits i

  abbrev value : ℕ → ℕ
  value = number_of e.opcode (fields_of i)

  is_whole_row : is_whole (layout_of e) ≡ true
  is_whole_row = whole i.op.number i.op.known

  own_registers : OwnRegisters apart i
  own_registers =
      let w = registers_of (limits_of e) i fits in
      let ds = layout_of e in
      record {
        r1 = taken_whole ds value 1 is_whole_row (lit< tt) refl ∙ mod-eq_of_lt w.r1_in;
        r2 = taken_whole ds value 2 is_whole_row (lit< tt) refl ∙ mod-eq_of_lt w.r2_in;
        r3 = taken_whole ds value 3 is_whole_row (lit< tt) refl ∙ mod-eq_of_lt w.r3_in;
        x = taken_whole ds value 4 is_whole_row (lit< tt) refl ∙ mod-eq_of_lt w.x_in;
        b = taken_whole ds value 5 is_whole_row (lit< tt) refl ∙ mod-eq_of_lt w.b_in;
        b2 = taken_whole ds value 7 is_whole_row (lit< tt) refl ∙ mod-eq_of_lt w.b2_in;
        mask = taken_whole ds value 10 is_whole_row (lit< tt) refl ∙ mod-eq_of_lt w.mask_in;
      }

  own_numbers : OwnNumbers apart i
  own_numbers =
      let w = numbers_of (limits_of e) i fits in
      let ds = layout_of e in
      let known = known_at i.op.number i.op.known in
      let d_known = and_left (is_known (has_signed_displacement (width ds 6)) (width ds 6)) _ known in
      let rest = and_right (is_known (has_signed_displacement (width ds 6)) (width ds 6)) _ known in
      let d2_known = and_left (is_known (has_signed_displacement (width ds 8)) (width ds 8)) _ rest in
      let imm_known = and_right (is_known (has_signed_displacement (width ds 8)) (width ds 8)) _ rest in
      record {
        d =
            ap (number (has_signed_displacement (width ds 6)) (4 * width ds 6))
            (taken_whole ds value 6 is_whole_row (lit< tt) refl)
            ∙ own_number (has_signed_displacement (width ds 6)) i.d (width ds 6) d_known w.d_in;
        d2 =
            ap (number (has_signed_displacement (width ds 8)) (4 * width ds 8))
            (taken_whole ds value 8 is_whole_row (lit< tt) refl)
            ∙ own_number (has_signed_displacement (width ds 8)) i.d2 (width ds 8) d2_known w.d2_in;
        imm =
            ap (number (has_signed_immediate e) (4 * width ds 9))
            (taken_whole ds value 9 is_whole_row (lit< tt) refl)
            ∙ own_number (has_signed_immediate e) i.imm (width ds 9) imm_known w.imm_in;
      }

  pub taken_apart : fields_in (layout_of e) (has_signed_immediate e) (spelling e i) ≡ fields_of i
  taken_apart = own_fields apart i own_registers own_numbers
