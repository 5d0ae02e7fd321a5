-- What the ranges of a format say of each field.
use Rattle.std.proofs.Common.{◌≡◌, ℕ, ◌<◌, ◌≤◌, true, false, Bool, IsTrue, arith, refl, lit≤, subst, sym}
use Rattle.std.specs.Prelude.{ℤ}
use Rattle.std.proofs.lemmas.Bool.{ltb-true}
use Rattle.z_instr.specs.declared.limits.Limits.{Limits}
use Rattle.z_instr.specs.declared.form.Form.{Form}
use Rattle.z_instr.specs.declared.form.Form.TheVariants.{RR}
use Rattle.z_instr.specs.Ranges.{are_within, are_registers_within, are_numbers_within, is_within, limits_in, limits_of, AreBelowSixteen}
use Rattle.z_instr.specs.Table.{Entry, entry_at}
use Rattle.z_instr.specs.declared.instr.Instr.{Instr}
use Rattle.z_instr.proofs.Passing.{and_left, and_right}

pub record RegistersWithin (l : Limits) (r1 r2 r3 x b b2 mask : ℕ) : Type 0 where
  pub r1_in : r1 < l.r1
  pub r2_in : r2 < l.r2
  pub r3_in : r3 < l.r3
  pub x_in : x < l.x
  pub b_in : b < l.b
  pub b2_in : b2 < l.b2
  pub mask_in : mask < l.mask

pub registers_within : (l : Limits) (r1 r2 r3 x b b2 mask : ℕ) →
    are_registers_within l r1 r2 r3 x b b2 mask ≡ true → RegistersWithin l r1 r2 r3 x b b2 mask
registers_within l r1 r2 r3 x b b2 mask h =
    let after_r1 = and_right _ _ h in
    let after_r2 = and_right _ _ after_r1 in
    let after_r3 = and_right _ _ after_r2 in
    let after_x = and_right _ _ after_r3 in
    let after_b = and_right _ _ after_x in
    record {
      r1_in = ltb-true _ _ (and_left _ _ h);
      r2_in = ltb-true _ _ (and_left _ _ after_r1);
      r3_in = ltb-true _ _ (and_left _ _ after_r2);
      x_in = ltb-true _ _ (and_left _ _ after_r3);
      b_in = ltb-true _ _ (and_left _ _ after_x);
      b2_in = ltb-true _ _ (and_left _ _ after_b);
      mask_in = ltb-true _ _ (and_right _ _ after_b);
    }

-- no register and no mask has more than 16 values
pub record IsNarrow (l : Limits) : Type 0 where
  pub r1_at_most : l.r1 ≤ 16
  pub r2_at_most : l.r2 ≤ 16
  pub r3_at_most : l.r3 ≤ 16
  pub x_at_most : l.x ≤ 16
  pub b_at_most : l.b ≤ 16
  pub b2_at_most : l.b2 ≤ 16
  pub mask_at_most : l.mask ≤ 16

narrow : (l : Limits) → l.r1 ≤ 16 → l.r2 ≤ 16 → l.r3 ≤ 16 → l.x ≤ 16 → l.b ≤ 16 → l.b2 ≤ 16 → l.mask ≤ 16 →
    IsNarrow l
narrow l r1 r2 r3 x b b2 mask =
    record {
      r1_at_most = r1;
      r2_at_most = r2;
      r3_at_most = r3;
      x_at_most = x;
      b_at_most = b;
      b2_at_most =
          b2;
      mask_at_most = mask;
    }

pub limits_are_narrow : (f : Form) → IsNarrow (limits_in f)
limits_are_narrow RR = narrow _ (lit≤ tt) (lit≤ tt) (lit≤ tt) (lit≤ tt) (lit≤ tt) (lit≤ tt) (lit≤ tt)
limits_are_narrow _ = narrow _ (lit≤ tt) (lit≤ tt) (lit≤ tt) (lit≤ tt) (lit≤ tt) (lit≤ tt) (lit≤ tt)

-- so registers and masks are below 16
pub below_sixteen : (l : Limits) (e : Entry) (r1 r2 r3 x b : ℕ) (d : ℤ) (b2 : ℕ) (d2 imm : ℤ) (mask : ℕ) →
    l ≡ limits_of e →
    are_within l r1 r2 r3 x b d b2 d2 imm mask ≡ true → AreBelowSixteen r1 r2 r3 x b b2 mask
below_sixteen l e r1 r2 r3 x b d b2 d2 imm mask same h =
    let w = registers_within l r1 r2 r3 x b b2 mask (and_left _ _ h) in
    let n : IsNarrow l = subst IsNarrow (sym same) (limits_are_narrow e.form) in
    record {
      r1_in = omega (arith, w.r1_in, n.r1_at_most);
      r2_in = omega (arith, w.r2_in, n.r2_at_most);
      r3_in = omega (arith, w.r3_in, n.r3_at_most);
      x_in = omega (arith, w.x_in, n.x_at_most);
      b_in = omega (arith, w.b_in, n.b_at_most);
      b2_in = omega (arith, w.b2_in, n.b2_at_most);
      mask_in = omega (arith, w.mask_in, n.mask_at_most);
    }

-- the displacements and the immediate are within their bounds
pub record NumbersWithin (l : Limits) (d d2 imm : ℤ) : Type 0 where
  pub d_in : is_within l.d d ≡ true
  pub d2_in : is_within l.d2 d2 ≡ true
  pub imm_in : is_within l.imm imm ≡ true

pub numbers_within : (l : Limits) (d d2 imm : ℤ) → are_numbers_within l d d2 imm ≡ true →
    NumbersWithin l d d2 imm
numbers_within l d d2 imm h =
    let after_d = and_right _ _ h in
    record { d_in = and_left _ _ h; d2_in = and_left _ _ after_d; imm_in = and_right _ _ after_d }

-- an instruction's fields are within some limits
abbrev pub Fits : Limits → Instr → Type 0
Fits l i = are_within l i.r1 i.r2 i.r3 i.x i.b i.d i.b2 i.d2 i.imm i.mask ≡ true

pub registers_of : (l : Limits) (i : Instr) → Fits l i → RegistersWithin l i.r1 i.r2 i.r3 i.x i.b i.b2 i.mask
registers_of l i h = registers_within l i.r1 i.r2 i.r3 i.x i.b i.b2 i.mask (and_left _ _ h)

pub numbers_of : (l : Limits) (i : Instr) → Fits l i → NumbersWithin l i.d i.d2 i.imm
numbers_of l i h = numbers_within l i.d i.d2 i.imm (and_right _ _ h)

holds : (b : Bool) → IsTrue b → b ≡ true
holds true h = refl
holds false h = absurd (grind arith)

-- what the type of instructions keeps
pub instr_fits : (i : Instr) → Fits (limits_of (entry_at i.op.number)) i
instr_fits i = holds _ i.shaped
