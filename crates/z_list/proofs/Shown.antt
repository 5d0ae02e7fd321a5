-- Each field of an instruction is 0, or one of its operands stands for it.
use Rattle.std.proofs.Common.{◌≡◌, ℕ, zero, suc, ◌<◌, true, List, [], ◌∷◌, arith, refl, ap, ◌∙◌}
use Rattle.std.specs.Prelude.{ℤ, pos, negsuc}
use Rattle.std.proofs.lemmas.Bool.{ltb-true}
use Rattle.z_instr.specs.declared.form.Slot.{Slot}
use Rattle.z_instr.specs.declared.form.Slot.TheVariants.{First, Second, Third, Mask, Immediate, Compared, Target, Indexed, Based, Counted, SecondBased}
use Rattle.z_instr.specs.declared.instr.Instr.{Instr}
use Rattle.z_instr.specs.declared.instr.Fields.{Fields}
use Rattle.z_instr.specs.declared.limits.Limits.{Limits}
use Rattle.z_instr.specs.declared.table.TheConstants.{ROWS}
use Rattle.z_instr.specs.Forms.{slots}
use Rattle.z_instr.specs.Made.{no_fields, fields_of}
use Rattle.z_instr.specs.Ranges.{is_within, bounds, limits_of}
use Rattle.z_instr.specs.Table.{entry_at}
use Rattle.z_instr.proofs.TableFacts.{at_row}
use Rattle.z_instr.proofs.Within.{Fits, instr_fits, registers_of, numbers_of}

-- ---- the fields that operands stand for

-- the second fields, but for those that the operand stands for, which are as in the first ones
abbrev pub shown : Slot → Fields → Fields → Fields
shown First f g = record g { r1 = f.r1 }
shown Second f g = record g { r2 = f.r2 }
shown Third f g = record g { r3 = f.r3 }
shown Mask f g = record g { mask = f.mask }
shown Immediate f g = record g { imm = f.imm }
shown Compared f g = record g { d2 = f.d2 }
shown Target f g = record g { imm = f.imm }
shown Indexed f g = record g { d = f.d; x = f.x; b = f.b }
shown Based f g = record g { d = f.d; b = f.b }
shown Counted f g = record g { d = f.d; imm = f.imm; b = f.b }
shown SecondBased f g = record g { d2 = f.d2; b2 = f.b2 }

-- one operand after the other
abbrev pub all_shown : List Slot → Fields → Fields → Fields
all_shown [] f g = g
all_shown (s ∷ ss) f g = all_shown ss f (shown s f g)

-- ---- the others are 0

-- 0 where there is no other value
abbrev kept : ℕ → ℕ → ℕ
kept (suc zero) n = 0
kept _ n = n

abbrev kept_among : ℕ → ℕ → ℤ → ℤ
kept_among zero (suc zero) z = pos 0
kept_among _ _ z = z

kept_is : (values n : ℕ) → n < values → kept values n ≡ n
kept_is zero n few = refl
kept_is (suc zero) n few = omega arith
kept_is (suc (suc values)) n few = refl

kept_among_is : (below above : ℕ) (z : ℤ) → is_within (bounds below above) z ≡ true
    → kept_among below above z ≡ z
kept_among_is zero zero z few = refl
kept_among_is zero (suc zero) (pos n) few =
    let small : n < 1 = ltb-true n 1 few in
    let none : 0 ≡ n = omega arith in
    ap pos none
kept_among_is zero (suc zero) (negsuc n) few =
    let small : n < 0 = ltb-true n 0 few in absurd (omega arith)
kept_among_is zero (suc (suc above)) z few = refl
kept_among_is (suc below) above z few = refl

-- the fields, 0 where the limits have no other value
abbrev limited : Limits → Fields → Fields
limited l f = record {
  r1 = kept l.r1 f.r1;
  r2 = kept l.r2 f.r2;
  r3 = kept l.r3 f.r3;
  x = kept l.x f.x;
  b = kept l.b f.b;
  d = kept_among l.d.below l.d.above f.d;
  b2 = kept l.b2 f.b2;
  d2 = kept_among l.d2.below l.d2.above f.d2;
  imm = kept_among l.imm.below l.imm.above f.imm;
  mask = kept l.mask f.mask;
}

limited_is : (l : Limits) (i : Instr) → Fits l i → limited l (fields_of i) ≡ fields_of i
limited_is l i fits =
    let a = registers_of l i fits in
    let n = numbers_of l i fits in
    λ k. record {
      r1 = kept_is l.r1 i.r1 a.r1_in k;
      r2 = kept_is l.r2 i.r2 a.r2_in k;
      r3 = kept_is l.r3 i.r3 a.r3_in k;
      x = kept_is l.x i.x a.x_in k;
      b = kept_is l.b i.b a.b_in k;
      d = kept_among_is l.d.below l.d.above i.d n.d_in k;
      b2 = kept_is l.b2 i.b2 a.b2_in k;
      d2 = kept_among_is l.d2.below l.d2.above i.d2 n.d2_in k;
      imm = kept_among_is l.imm.below l.imm.above i.imm n.imm_in k;
      mask = kept_is l.mask i.mask a.mask_in k;
    }

-- in each row operands stand for all fields that have another value than 0, and for no others
limited_at : (n : ℕ) → n < ROWS →
    (λ f. all_shown (slots (entry_at n).form) f no_fields) ≡ limited (limits_of (entry_at n))
limited_at = at_row (λ e f. all_shown (slots e.form) f no_fields) (λ e. limited (limits_of e)) refl

pub fields_are : (i : Instr)
    → all_shown (slots (entry_at i.op.number).form) (fields_of i) no_fields ≡ fields_of i
fields_are i =
    ap (λ g. g (fields_of i)) (limited_at i.op.number i.op.known)
    ∙ limited_is (limits_of (entry_at i.op.number)) i (instr_fits i)
