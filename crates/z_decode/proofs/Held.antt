-- The numbers that bytes hold by the layout of a row: how small they are, the fields that they make, and that these are
-- spelled with the bytes again.
use Rattle.std.proofs.Common.{◌≡◌, ℕ, zero, suc, ◌<◌, ◌≤◌, ◌+◌, ◌-◌, ◌*◌, ◌%◌, ◌^◌, true, false, Bool, ◌&&◌}
use Rattle.std.proofs.Common.{nat_lt, nat_le, List, length, if◌then◌else◌, refl, sym, ap, subst, ◌∙◌, arith, lt-ltb}
use Rattle.std.specs.Prelude.{pos, negsuc}
use Rattle.std.proofs.Math.Nat.{mod-eq_of_lt, pow-le-pow_right}
use Rattle.std.proofs.Common.{lit<}
use Rattle.std.proofs.lemmas.Bool.{leb-true}
use Rattle.z_instr.specs.declared.instr.Fields.{Fields}
use Rattle.z_instr.specs.declared.instr.Instr.{Instr}
use Rattle.z_instr.specs.declared.op.Op.{Op}
use Rattle.z_instr.specs.declared.table.TheConstants.{ROWS}
use Rattle.z_instr.specs.Computing.{fields_in, number, signed_number}
use Rattle.z_instr.specs.Layout.{form_length}
use Rattle.z_instr.specs.Layouts.{layout_of, width, taken, has_signed_immediate, has_signed_displacement}
use Rattle.z_instr.specs.Made.{Has, fields_of}
use Rattle.z_instr.specs.Places.{HasOpcode}
use Rattle.z_instr.specs.Ranges.{bounds_by, limits_of}
use Rattle.z_instr.specs.Reading.{AreBytes, Reads, modulo, number_of, code}
use Rattle.z_instr.specs.Table.{Entry, entry_at}
use Rattle.z_instr.proofs.Passing.{and_left, and_right}
use Rattle.z_instr.proofs.TableFacts.{passes_row}
use Rattle.z_instr.proofs.Wholes.{whole, length_at, is_known, known_at, place_holds}
use Rattle.z_decode.specs.Code.{among, fields_by, AreSmall}
use Rattle.z_decode.proofs.Again.{spelled_again}
use Rattle.z_decode.proofs.Rows.{row_below}

-- ---- numbers by their bits

-- no more than eight digits
over : (w : ℕ) → suc (suc (suc (suc (suc (suc (suc (suc (suc w)))))))) ≤ 8 → ⊥
over w h = omega arith

-- a number with a sign or without is the one among its bounds
among_is : (s : Bool) (w t : ℕ) → is_known s w ≡ true → t < 16 ^ w → among (bounds_by s w) t ≡ number s (4 * w) t
among_is false w t k h = ap (λ b. if b then pos t else negsuc (16 ^ w + 0 - 1 - t)) (lt-ltb t (16 ^ w) h)
among_is true zero t k h = absurd (cc)
among_is true (suc zero) t k h = refl
among_is true (suc (suc zero)) t k h = refl
among_is true (suc (suc (suc zero))) t k h = refl
among_is true (suc (suc (suc (suc zero)))) t k h = refl
among_is true (suc (suc (suc (suc (suc zero))))) t k h = refl
among_is true (suc (suc (suc (suc (suc (suc zero)))))) t k h = refl
among_is true (suc (suc (suc (suc (suc (suc (suc zero))))))) t k h = refl
among_is true (suc (suc (suc (suc (suc (suc (suc (suc zero)))))))) t k h = refl
among_is true (suc (suc (suc (suc (suc (suc (suc (suc (suc w))))))))) t k h =
    absurd (over w (leb-true _ _ (and_left (nat_le (suc (suc (suc (suc (suc (suc (suc (suc (suc w))))))))) 8) _ k)))

-- its bits are fewer than the numbers among its bounds
inside : (s : Bool) (w t : ℕ) → is_known s w ≡ true → t < 16 ^ w → t < (bounds_by s w).above + (bounds_by s w).below
inside false w t k h = omega arith
inside true zero t k h = absurd (cc)
inside true (suc zero) t k h = omega arith
inside true (suc (suc zero)) t k h = omega arith
inside true (suc (suc (suc zero))) t k h = omega arith
inside true (suc (suc (suc (suc zero)))) t k h = omega arith
inside true (suc (suc (suc (suc (suc zero))))) t k h = omega arith
inside true (suc (suc (suc (suc (suc (suc zero)))))) t k h = omega arith
inside true (suc (suc (suc (suc (suc (suc (suc zero))))))) t k h = omega arith
inside true (suc (suc (suc (suc (suc (suc (suc (suc zero)))))))) t k h = omega arith
inside true (suc (suc (suc (suc (suc (suc (suc (suc (suc w))))))))) t k h =
    absurd (over w (leb-true _ _ (and_left (nat_le (suc (suc (suc (suc (suc (suc (suc (suc (suc w))))))))) 8) _ k)))

-- the last bits of a number with a sign
abbrev signed_in : ℕ → ℕ → ℕ → Bool → ℕ
signed_in t w m b = modulo 32 (if b then pos t else negsuc (2 ^ m - 1 - t)) % 16 ^ w

signed_again : (w t : ℕ) → w ≤ 8 → t < 16 ^ w → modulo 32 (signed_number (4 * w) t) % 16 ^ w ≡ t
signed_again zero t l h =
    elim (nat_lt t 1) as (λ b. signed_in t 0 0 b ≡ t) [ true ↦ omega arith | false ↦ omega arith ]
signed_again (suc zero) t l h =
    elim (nat_lt t 8) as (λ b. signed_in t 1 4 b ≡ t) [ true ↦ omega arith | false ↦ omega arith ]
signed_again (suc (suc zero)) t l h =
    elim (nat_lt t 128) as (λ b. signed_in t 2 8 b ≡ t) [ true ↦ omega arith | false ↦ omega arith ]
signed_again (suc (suc (suc zero))) t l h =
    elim (nat_lt t 2048) as (λ b. signed_in t 3 12 b ≡ t) [ true ↦ omega arith | false ↦ omega arith ]
signed_again (suc (suc (suc (suc zero)))) t l h =
    elim (nat_lt t 32768) as (λ b. signed_in t 4 16 b ≡ t) [ true ↦ omega arith | false ↦ omega arith ]
signed_again (suc (suc (suc (suc (suc zero))))) t l h =
    elim (nat_lt t 524288) as (λ b. signed_in t 5 20 b ≡ t) [ true ↦ omega arith | false ↦ omega arith ]
signed_again (suc (suc (suc (suc (suc (suc zero)))))) t l h =
    elim (nat_lt t 8388608) as (λ b. signed_in t 6 24 b ≡ t) [ true ↦ omega arith | false ↦ omega arith ]
signed_again (suc (suc (suc (suc (suc (suc (suc zero))))))) t l h =
    elim (nat_lt t 134217728) as (λ b. signed_in t 7 28 b ≡ t) [ true ↦ omega arith | false ↦ omega arith ]
signed_again (suc (suc (suc (suc (suc (suc (suc (suc zero)))))))) t l h =
    elim (nat_lt t 2147483648) as (λ b. signed_in t 8 32 b ≡ t) [ true ↦ omega arith | false ↦ omega arith ]
signed_again (suc (suc (suc (suc (suc (suc (suc (suc (suc w))))))))) t l h = absurd (omega arith)

-- the last bits of a number are those that it was read from
number_again : (s : Bool) (w t : ℕ) → is_known s w ≡ true → t < 16 ^ w → modulo 32 (number s (4 * w) t) % 16 ^ w ≡ t
number_again true w t k h = signed_again w t (leb-true w 8 (and_left (nat_le w 8) _ k)) h
number_again false w t k h =
    let most : 16 ^ w ≤ 16 ^ 8 = pow-le-pow_right (lit< tt) (leb-true w 8 (and_left (nat_le w 8) _ k)) in
    ap (λ m. m % 16 ^ w) (mod-eq_of_lt (omega arith)) ∙ mod-eq_of_lt h

-- ---- registers

abbrev is_narrow : Entry → Bool
is_narrow e =
    let n = width (layout_of e) in
    nat_le (n 1) 1 && (nat_le (n 2) 1 && (nat_le (n 3) 1 && (nat_le (n 4) 1 && (nat_le (n 5) 1
    && (nat_le (n 7) 1 && nat_le (n 10) 1)))))

one_digit : (w t : ℕ) → nat_le w 1 ≡ true → t < 16 ^ w → t < 16
one_digit w t k h =
    let most : 16 ^ w ≤ 16 ^ 1 = pow-le-pow_right (lit< tt) (leb-true w 1 k) in
    omega arith

-- ---- of a row

module _ (n : ℕ) (bytes : List ℕ) (known : n < ROWS) (b : AreBytes bytes) where
  abbrev e : Entry
  e = entry_at n

  abbrev held : ℕ → ℕ
  held = taken (layout_of e) bytes

  abbrev digits : ℕ → ℕ
  digits = width (layout_of e)

  abbrev signed_d : Bool
  signed_d = has_signed_displacement (digits 6)

  abbrev signed_d2 : Bool
  signed_d2 = has_signed_displacement (digits 8)

  d_known : is_known signed_d (digits 6) ≡ true
  d_known = and_left (is_known signed_d (digits 6)) _ (known_at n known)

  others_known : (is_known signed_d2 (digits 8) && is_known (has_signed_immediate e) (digits 9)) ≡ true
  others_known = and_right (is_known signed_d (digits 6)) _ (known_at n known)

  d2_known : is_known signed_d2 (digits 8) ≡ true
  d2_known = and_left (is_known signed_d2 (digits 8)) _ others_known

  imm_known : is_known (has_signed_immediate e) (digits 9) ≡ true
  imm_known = and_right (is_known signed_d2 (digits 8)) _ others_known

  below : (r : ℕ) → held r < 16 ^ digits r
  below r = row_below n bytes r known b

  abbrev narrow : is_narrow e ≡ true
  narrow = passes_row is_narrow refl n known

  -- the numbers are as small as its fields
  pub are_small : AreSmall e held
  are_small =
      let m1 = and_right (nat_le (digits 1) 1) _ narrow in
      let m2 = and_right (nat_le (digits 2) 1) _ m1 in
      let m3 = and_right (nat_le (digits 3) 1) _ m2 in
      let m4 = and_right (nat_le (digits 4) 1) _ m3 in
      let m5 = and_right (nat_le (digits 5) 1) _ m4 in
      record {
        r1 = one_digit (digits 1) (held 1) (and_left (nat_le (digits 1) 1) _ narrow) (below 1);
        r2 = one_digit (digits 2) (held 2) (and_left (nat_le (digits 2) 1) _ m1) (below 2);
        r3 = one_digit (digits 3) (held 3) (and_left (nat_le (digits 3) 1) _ m2) (below 3);
        x = one_digit (digits 4) (held 4) (and_left (nat_le (digits 4) 1) _ m3) (below 4);
        b = one_digit (digits 5) (held 5) (and_left (nat_le (digits 5) 1) _ m4) (below 5);
        d = inside signed_d (digits 6) (held 6) d_known (below 6);
        b2 = one_digit (digits 7) (held 7) (and_left (nat_le (digits 7) 1) _ m5) (below 7);
        d2 = inside signed_d2 (digits 8) (held 8) d2_known (below 8);
        imm = inside (has_signed_immediate e) (digits 9) (held 9) imm_known (below 9);
        mask = one_digit (digits 10) (held 10) (and_right (nat_le (digits 7) 1) _ m5) (below 10);
      }

  abbrev apart : Fields
  apart = fields_in (layout_of e) (has_signed_immediate e) bytes

  d_is : among (limits_of e).d (held 6) ≡ apart.d
  d_is = among_is signed_d (digits 6) (held 6) d_known (below 6)

  d2_is : among (limits_of e).d2 (held 8) ≡ apart.d2
  d2_is = among_is signed_d2 (digits 8) (held 8) d2_known (below 8)

  imm_is : among (limits_of e).imm (held 9) ≡ apart.imm
  imm_is = among_is (has_signed_immediate e) (digits 9) (held 9) imm_known (below 9)

  -- the fields that they make are those that the bytes hold
  pub fields_are : fields_by e held ≡ apart
  fields_are =
      λ k. record {
        r1 = held 1;
        r2 = held 2;
        r3 = held 3;
        x = held 4;
        b = held 5;
        d = d_is k;
        b2 = held 7;
        d2 = d2_is k;
        imm = imm_is k;
        mask = held 10;
      }

  -- the last bits of each are what was read
  numbers_again : HasOpcode e bytes → held 11 ≡ 0 → (r : ℕ) → r < 12 → held r ≡ number_of e.opcode apart r % 16 ^ digits r
  numbers_again o z zero h =
      let opcode : held 0 ≡ e.opcode = sym (place_holds e.form bytes) ∙ o in
      sym (mod-eq_of_lt (below 0)) ∙ ap (λ m. m % 16 ^ digits 0) opcode
  numbers_again o z (suc zero) h = sym (mod-eq_of_lt (below 1))
  numbers_again o z (suc (suc zero)) h = sym (mod-eq_of_lt (below 2))
  numbers_again o z (suc (suc (suc zero))) h = sym (mod-eq_of_lt (below 3))
  numbers_again o z (suc (suc (suc (suc zero)))) h = sym (mod-eq_of_lt (below 4))
  numbers_again o z (suc (suc (suc (suc (suc zero))))) h = sym (mod-eq_of_lt (below 5))
  numbers_again o z (suc (suc (suc (suc (suc (suc zero)))))) h = sym (number_again signed_d (digits 6) (held 6) d_known (below 6))
  numbers_again o z (suc (suc (suc (suc (suc (suc (suc zero))))))) h = sym (mod-eq_of_lt (below 7))
  numbers_again o z (suc (suc (suc (suc (suc (suc (suc (suc zero)))))))) h =
      sym (number_again signed_d2 (digits 8) (held 8) d2_known (below 8))
  numbers_again o z (suc (suc (suc (suc (suc (suc (suc (suc (suc zero))))))))) h =
      sym (number_again (has_signed_immediate e) (digits 9) (held 9) imm_known (below 9))
  numbers_again o z (suc (suc (suc (suc (suc (suc (suc (suc (suc (suc zero)))))))))) h = sym (mod-eq_of_lt (below 10))
  numbers_again o z (suc (suc (suc (suc (suc (suc (suc (suc (suc (suc (suc zero))))))))))) h =
      sym (mod-eq_of_lt (below 11)) ∙ ap (λ m. m % 16 ^ digits 11) z
  numbers_again o z (suc (suc (suc (suc (suc (suc (suc (suc (suc (suc (suc (suc r)))))))))))) h = absurd (omega arith)

-- the fields of an instruction that has been made of some
made_of : (o : Op) (f : Fields) (i : Instr) → Has o f i → f ≡ fields_of i
made_of o f i h =
    λ k. record {
      r1 = sym h.r1 k;
      r2 = sym h.r2 k;
      r3 = sym h.r3 k;
      x = sym h.x k;
      b = sym h.b k;
      d = sym h.d k;
      b2 = sym h.b2 k;
      d2 = sym h.d2 k;
      imm = sym h.imm k;
      mask = sym h.mask k;
    }

-- bytes with the opcode of a row, in which the bits that no field uses are zero, read as the instruction of their fields
pub reads_again : (o : Op) (bytes : List ℕ) (i : Instr) → AreBytes bytes → HasOpcode (entry_at o.number) bytes →
    length bytes ≡ form_length (entry_at o.number).form → taken (layout_of (entry_at o.number)) bytes 11 ≡ 0 →
    Has o (fields_in (layout_of (entry_at o.number)) (has_signed_immediate (entry_at o.number)) bytes) i → Reads bytes i
reads_again o bytes i b has l z h =
    subst (λ n. bytes ≡ code (entry_at n) (fields_of i)) (sym h.op)
    (subst (λ f. bytes ≡ code (entry_at o.number) f) (made_of o _ i h) again)
  where
    again : bytes ≡ code (entry_at o.number) (fields_in (layout_of (entry_at o.number)) (has_signed_immediate (entry_at o.number)) bytes)
    again =
        spelled_again (layout_of (entry_at o.number)) bytes _ (whole o.number o.known)
        (length_at o.number o.known ∙ ap (λ m. 2 * m) (sym l)) b (numbers_again o.number bytes o.known b has z)

-- fields by the same numbers are the same
pub same_fields : (e : Entry) (v w : ℕ → ℕ) → ((r : ℕ) → v r ≡ w r) → fields_by e v ≡ fields_by e w
same_fields e v w h =
    λ k. record {
      r1 = h 1 k;
      r2 = h 2 k;
      r3 = h 3 k;
      x = h 4 k;
      b = h 5 k;
      d = among (limits_of e).d (h 6 k);
      b2 = h 7 k;
      d2 = among (limits_of e).d2 (h 8 k);
      imm = among (limits_of e).imm (h 9 k);
      mask = h 10 k;
    }

-- and they are as small
pub same_small : (e : Entry) (v w : ℕ → ℕ) → ((r : ℕ) → v r ≡ w r) → AreSmall e w → AreSmall e v
same_small e v w h s =
    record {
      r1 = subst (λ m. m < 16) (sym (h 1)) s.r1;
      r2 = subst (λ m. m < 16) (sym (h 2)) s.r2;
      r3 = subst (λ m. m < 16) (sym (h 3)) s.r3;
      x = subst (λ m. m < 16) (sym (h 4)) s.x;
      b = subst (λ m. m < 16) (sym (h 5)) s.b;
      d = subst (λ m. m < (limits_of e).d.above + (limits_of e).d.below) (sym (h 6)) s.d;
      b2 = subst (λ m. m < 16) (sym (h 7)) s.b2;
      d2 = subst (λ m. m < (limits_of e).d2.above + (limits_of e).d2.below) (sym (h 8)) s.d2;
      imm = subst (λ m. m < (limits_of e).imm.above + (limits_of e).imm.below) (sym (h 9)) s.imm;
      mask = subst (λ m. m < 16) (sym (h 10)) s.mask;
    }
