-- An instruction's operands as the disassembler prints them: few, small, and of the form that the assembler
-- wants.
use Rattle.std.proofs.Common.{◌≡◌, ℕ, ◌+◌, ◌<◌, ◌≤◌, true, ◌&&◌, nat_le, List, [], ◌∷◌}
use Rattle.std.proofs.Common.{length, map}
use Rattle.std.proofs.Common.{refl, sym, ap₂, arith, subst}
use Rattle.std.specs.Prelude.{ℤ, pos, negsuc, ◌+ℤ◌}
use Rattle.std.proofs.lemmas.Int.{ints}
use Rattle.std.proofs.lemmas.List.{length-map}
use Rattle.std.proofs.lemmas.Bool.{ltb-true, leb-true}
use Rattle.z_instr.specs.declared.form.Slot.{Slot}
use Rattle.z_instr.specs.declared.form.Slot.TheVariants as slot
use Rattle.z_instr.specs.declared.instr.Instr.{Instr}
use Rattle.z_instr.specs.declared.instr.Fields.{Fields}
use Rattle.z_instr.specs.Forms.{slots}
use Rattle.z_instr.specs.Made.{fields_of}
use Rattle.z_instr.specs.Ranges.{is_within}
use Rattle.z_instr.specs.Reading.{modulo}
use Rattle.z_instr.specs.Table.{entry_at}
use Rattle.z_instr.proofs.TableFacts.{passes_row}
use Rattle.z_operands.specs.Operands.{takes, has_form}
use Rattle.z_list.specs.Operands.{operand_at, operands_at, operands_of}
use Rattle.z_list.proofs.Distances.{close, long_is_close, displacement_is_long, second_is_long, immediate_is_close}
use Rattle.listing_laws.proofs.Spelled.{IsNear, AreFew, AreAllFew}
use Rattle.listing_laws.proofs.Given.{made}

record AreFewFields (i : Instr) : Type 0 where
  r1 : IsNear (pos i.r1)
  r2 : IsNear (pos i.r2)
  r3 : IsNear (pos i.r3)
  mask : IsNear (pos i.mask)
  x : i.x < 1000
  b : i.b < 1000
  b2 : i.b2 < 1000
  d : IsNear i.d
  d2 : IsNear i.d2
  imm : IsNear i.imm
  twice : IsNear (i.imm +ℤ i.imm)
  count : modulo 8 i.imm + 1 < 1000

near : (z : ℤ) → is_within close z ≡ true → IsNear z
near (pos n) h = let few : n < 4294967296 = ltb-true n 4294967296 h in omega arith
near (negsuc n) h = let few : n < 2147483648 = ltb-true n 2147483648 h in omega arith

near_twice : (z : ℤ) → is_within close z ≡ true → IsNear (z +ℤ z)
near_twice (pos n) h =
    let few : n < 4294967296 = ltb-true n 4294967296 h in
    let sum : pos n +ℤ pos n ≡ pos (n + n) = omega (arith, ints) in
    subst IsNear (sym sum) (small n few)
  where
    small : (m : ℕ) → m < 4294967296 → IsNear (pos (m + m))
    small m few = omega arith
near_twice (negsuc n) h =
    let few : n < 2147483648 = ltb-true n 2147483648 h in
    let sum : negsuc n +ℤ negsuc n ≡ negsuc (n + n + 1) = omega (arith, ints) in
    subst IsNear (sym sum) (small n few)
  where
    small : (m : ℕ) → m < 2147483648 → IsNear (negsuc (m + m + 1))
    small m few = omega arith

few_bytes : (z : ℤ) → modulo 8 z + 1 < 1000
few_bytes (pos n) = omega arith
few_bytes (negsuc n) = omega arith

few_fields : (i : Instr) → AreFewFields i
few_fields i = record {
  r1 = register i.r1 i.r1_in;
  r2 = register i.r2 i.r2_in;
  r3 = register i.r3 i.r3_in;
  mask = register i.mask i.mask_in;
  x = omega (arith, i.x_in);
  b = omega (arith, i.b_in);
  b2 = omega (arith, i.b2_in);
  d = near i.d (long_is_close i.d (displacement_is_long i));
  d2 = near i.d2 (long_is_close i.d2 (second_is_long i));
  imm = near i.imm (immediate_is_close i);
  twice = near_twice i.imm (immediate_is_close i);
  count = few_bytes i.imm;
}
  where
    register : (n : ℕ) → n < 16 → IsNear (pos n)
    register n h = omega arith

few_at : (s : Slot) (i : Instr) → AreFewFields i → AreFew (operand_at s (fields_of i))
few_at slot.First i few = few.r1
few_at slot.Second i few = few.r2
few_at slot.Third i few = few.r3
few_at slot.Mask i few = few.mask
few_at slot.Immediate i few = few.imm
few_at slot.Compared i few = few.d2
few_at slot.Target i few = few.twice
few_at slot.Indexed i few = (few.d, few.x, few.b)
few_at slot.Based i few = (few.d, few.b)
few_at slot.Counted i few = (few.d, few.count, few.b)
few_at slot.SecondBased i few = (few.d2, few.b2)

pub few_operands : (ss : List Slot) (i : Instr) → AreAllFew (operands_at ss (fields_of i))
few_operands [] i = tt
few_operands (s ∷ ss) i = (few_at s i (few_fields i), few_operands ss i)

pub at_most_four : (i : Instr) → length (operands_of i) ≤ 4
at_most_four i =
    let n = i.op.number in
    let few : length (slots (entry_at n).form) ≤ 4 =
    leb-true _ _ (passes_row (λ e. nat_le (length (slots e.form)) 4) refl n i.op.known) in
    omega (arith, few, length-map (slots (entry_at n).form) (λ s. operand_at s (fields_of i)))

taken_at : (here : ℕ) (s : Slot) (f : Fields) → takes s (made here (operand_at s f)) ≡ true
taken_at here slot.First f = refl
taken_at here slot.Second f = refl
taken_at here slot.Third f = refl
taken_at here slot.Mask f = refl
taken_at here slot.Immediate f = refl
taken_at here slot.Compared f = refl
taken_at here slot.Target f = refl
taken_at here slot.Indexed f = refl
taken_at here slot.Based f = refl
taken_at here slot.Counted f = refl
taken_at here slot.SecondBased f = refl

pub has_its_form : (here : ℕ) (ss : List Slot) (f : Fields) → has_form ss (map (made here) (operands_at ss f)) ≡ true
has_its_form here [] f = refl
has_its_form here (s ∷ ss) f = ap₂ ◌&&◌ (taken_at here s f) (has_its_form here ss f)
