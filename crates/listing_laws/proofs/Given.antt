-- The assembler's fields of the operands that the disassembler prints are those of the instruction.
use Rattle.std.proofs.Common.{◌≡◌, ℕ, suc, ◌+◌, ◌-◌, ◌/◌, ◌%◌, ◌<◌, ◌≤◌, ◌^◌, true, false, List, [], ◌∷◌}
use Rattle.std.proofs.Common.{map, Option, Some, None, refl, ap, ap₂, ◌∙◌, arith, lt-ltb, ◌⊎◌}
use Rattle.std.proofs.Common.{inl, inr}
use Rattle.std.specs.Prelude.{ℤ, pos, negsuc, ◌+ℤ◌, ◌-ℤ◌, ◌==◌, if◌then◌else◌}
use Rattle.std.specs.List.{list_any}
use Rattle.std.proofs.lemmas.Int.{ints}
use Rattle.std.proofs.lemmas.Bool.{ltb-true, cases_lt}
use Rattle.z_instr.specs.declared.form.Slot.{Slot}
use Rattle.z_instr.specs.declared.form.Slot.TheVariants as slot
use Rattle.z_instr.specs.declared.instr.Instr.{Instr}
use Rattle.z_instr.specs.declared.instr.Fields.{Fields}
use Rattle.z_instr.specs.Forms.{slots}
use Rattle.z_instr.specs.Made.{no_fields, fields_of}
use Rattle.z_instr.specs.Ranges.{is_within, bounds, byte, long, signed_full}
use Rattle.z_instr.specs.Reading.{modulo}
use Rattle.z_instr.specs.Table.{entry_at}
use Rattle.z_instr.proofs.Passing.{and_left, and_right}
use Rattle.z_operands.specs.Operands.{◌>>=◌, register, displacement, immediate, length_code, half, jump}
use Rattle.z_operands.specs.Operands.{with_slot, fields_from, lacks_value}
use Rattle.z_operands.specs.declared.operand.Operand as read
use Rattle.z_operands.specs.declared.operand.Operand.TheVariants.{Plain, Short, Full}
use Rattle.z_list.specs.declared.parts.Operand.{Operand}
use Rattle.z_list.specs.declared.parts.Operand.TheVariants.{Number, Target, Indexed, Based, Counted}
use Rattle.z_list.specs.Operands.{operand_at, operands_at, operands_of}
use Rattle.z_list.proofs.Distances.{reach, AreInReach, displacement_is_long, second_is_long, immediate_in_reach}
use Rattle.z_list.proofs.Shown.{shown, all_shown, fields_are}

-- what the assembler reads of an operand that was printed, at an address
abbrev pub made : ℕ → Operand → read.Operand
made here (Number z) = Plain (Some z)
made here (Target z) = Plain (Some (pos here +ℤ z))
made here (Indexed d x b) = Full (Some d) (Some (pos x)) (Some (pos b))
made here (Based d b) = Short (Some d) (Some (pos b))
made here (Counted d c b) = Full (Some d) (Some (pos c)) (Some (pos b))

pub all_have_values : (here : ℕ) (os : List Operand) → list_any lacks_value (map (made here) os) ≡ false
all_have_values here [] = refl
all_have_values here (Number z ∷ os) = all_have_values here os
all_have_values here (Target z ∷ os) = all_have_values here os
all_have_values here (Indexed d x b ∷ os) = all_have_values here os
all_have_values here (Based d b ∷ os) = all_have_values here os
all_have_values here (Counted d c b ∷ os) = all_have_values here os

-- ---- single values

register_is : (n : ℕ) → n < 16 → register (pos n) ≡ Some n
register_is n h = ap (λ b. if b then Some n else None) (lt-ltb n 16 h)

displacement_is : (z : ℤ) → is_within long z ≡ true → displacement z ≡ Some z
displacement_is z h = ap (λ b. if b then Some z else None) h

pub immediate_is : (z : ℤ) → is_within (bounds (2 ^ 31) (2 ^ 32)) z ≡ true → immediate z ≡ Some z
immediate_is z h = ap (λ b. if b then Some z else None) h

length_is : (z : ℤ) → is_within byte z ≡ true → length_code (pos (modulo 8 z + 1)) ≡ Some z
length_is (pos n) h =
    let few : n < 256 = ltb-true n 256 h in
    let code : n % 2 ^ 8 + 1 ≡ suc n = omega arith in
    ap (λ (m : ℕ). length_code (pos m)) code ∙ ap (λ b. if b then Some (pos n) else None) h
length_is (negsuc n) h = let few : n < 0 = ltb-true n 0 h in absurd (omega arith)

half_is : (z : ℤ) → half (z +ℤ z) ≡ Some z
half_is (pos n) =
    let even : (n + n) % 2 ≡ 0 = omega arith in
    let part : (n + n) / 2 ≡ n = omega arith in
    let twice : pos n +ℤ pos n ≡ pos (n + n) = omega (arith, ints) in
    ap (λ (z : ℤ). half z) twice ∙ ap₂ (λ (r q : ℕ). if r == 0 then Some (pos q) else None) even part
half_is (negsuc n) =
    let odd : (n + n + 1) % 2 ≡ 1 = omega arith in
    let part : (n + n + 1) / 2 ≡ n = omega arith in
    let twice : negsuc n +ℤ negsuc n ≡ negsuc (n + n + 1) = omega (arith, ints) in
    ap (λ (z : ℤ). half z) twice ∙ ap₂ (λ (r q : ℕ). if r == 1 then Some (negsuc q) else None) odd part

jump_is : (here : ℕ) (z : ℤ) → here < 2 ^ 32 → is_within signed_full z ≡ true
    → jump here (pos here +ℤ (z +ℤ z)) ≡ Some z
jump_is here z low near =
    let apart : pos here +ℤ (z +ℤ z) -ℤ pos here ≡ z +ℤ z = omega (arith, ints) in
    ap (λ b. if b then (half (pos here +ℤ (z +ℤ z) -ℤ pos here) >>= immediate) else None) (inside z near)
    ∙ ap (λ (y : ℤ). half y >>= immediate) apart
    ∙ ap (λ (o : Option ℤ). o >>= immediate) (half_is z) ∙ immediate_is z (wider z near)
  where
    wider : (y : ℤ) → is_within signed_full y ≡ true → is_within (bounds (2 ^ 31) (2 ^ 32)) y ≡ true
    wider (pos n) h = let few : n < 2 ^ 31 = ltb-true n (2 ^ 31) h in lt-ltb n (2 ^ 32) (omega arith)
    wider (negsuc n) h = h

    inside : (y : ℤ) → is_within signed_full y ≡ true
        → is_within (bounds (2 ^ 33) (2 ^ 33)) (pos here +ℤ (y +ℤ y)) ≡ true
    inside (pos n) h =
        let few : n < 2 ^ 31 = ltb-true n (2 ^ 31) h in
        let sum : pos here +ℤ (pos n +ℤ pos n) ≡ pos (here + (n + n)) = omega (arith, ints) in
        ap (is_within (bounds (2 ^ 33) (2 ^ 33))) sum ∙ lt-ltb (here + (n + n)) (2 ^ 33) (omega arith)
    inside (negsuc n) h =
        let few : n < 2 ^ 31 = ltb-true n (2 ^ 31) h in
        by (cases_lt (n + n + 1) here)
      where
        by : ((n + n + 1 < here) ⊎ (here ≤ n + n + 1))
            → is_within (bounds (2 ^ 33) (2 ^ 33)) (pos here +ℤ (negsuc n +ℤ negsuc n)) ≡ true
        by (inl ahead) =
            let few : n < 2 ^ 31 = ltb-true n (2 ^ 31) h in
            let sum : pos here +ℤ (negsuc n +ℤ negsuc n)
            ≡ pos (here - (n + n + 1) - 1) = omega (arith, ints) in
            ap (is_within (bounds (2 ^ 33) (2 ^ 33))) sum
            ∙ lt-ltb (here - (n + n + 1) - 1) (2 ^ 33) (omega arith)
        by (inr back) =
            let few : n < 2 ^ 31 = ltb-true n (2 ^ 31) h in
            let sum : pos here +ℤ (negsuc n +ℤ negsuc n)
            ≡ negsuc (n + n + 1 - here) = omega (arith, ints) in
            ap (is_within (bounds (2 ^ 33) (2 ^ 33))) sum ∙ lt-ltb (n + n + 1 - here) (2 ^ 33) (omega arith)

abbrev pub fields : ℕ → ℕ → ℕ → ℕ → ℕ → ℤ → ℕ → ℤ → ℤ → ℕ → Fields
fields r1 r2 r3 x b d b2 d2 imm mask =
    record { r1 = r1; r2 = r2; r3 = r3; x = x; b = b; d = d; b2 = b2; d2 = d2; imm = imm; mask = mask }

-- ---- one operand after the other

module _ (here : ℕ) where
  pub goes : (s : Slot) (ss : List Slot) (o : read.Operand) (os : List read.Operand) (f g : Fields)
      → with_slot here s o f ≡ Some g
      → fields_from here (s ∷ ss) (o ∷ os) f ≡ fields_from here ss os g
  unfolding fields_from
  goes s ss o os f g e = ap (λ r. r >>= fields_from here ss os) e

  pub ends : (f : Fields) → fields_from here [] [] f ≡ Some f
  unfolding fields_from
  ends f = refl

  pub first_slot : (n : ℕ) (f : Fields) → n < 16
      → with_slot here slot.First (Plain (Some (pos n))) f ≡ Some (record f { r1 = n })
  first_slot n f h = ap (λ r. r >>= λ v. Some (record f { r1 = v })) (register_is n h)

  pub immediate_slot : (z : ℤ) (f : Fields) → immediate z ≡ Some z
      → with_slot here slot.Immediate (Plain (Some z)) f ≡ Some (record f { imm = z })
  immediate_slot z f h = ap (λ r. r >>= λ v. Some (record f { imm = v })) h

-- ---- all operands

module _ (here : ℕ) (low : here < 2 ^ 32) where
  -- the operand that was printed for some fields gives these
  given_at : (s : Slot) (i : Instr) (f : Fields) → is_within (reach s) i.imm ≡ true
      → with_slot here s (made here (operand_at s (fields_of i))) f ≡ Some (shown s (fields_of i) f)
  given_at slot.First i f near = first_slot here i.r1 f i.r1_in
  given_at slot.Second i f near = ap (λ r. r >>= λ v. Some (record f { r2 = v })) (register_is i.r2 i.r2_in)
  given_at slot.Third i f near = ap (λ r. r >>= λ v. Some (record f { r3 = v })) (register_is i.r3 i.r3_in)
  given_at slot.Mask i f near = ap (λ r. r >>= λ v. Some (record f { mask = v })) (register_is i.mask i.mask_in)
  given_at slot.Immediate i f near = immediate_slot here i.imm f (immediate_is i.imm near)
  given_at slot.Compared i f near =
      ap (λ r. r >>= λ v. Some (record f { d2 = v })) (displacement_is i.d2 (second_is_long i))
  given_at slot.Target i f near = ap (λ r. r >>= λ v. Some (record f { imm = v })) (jump_is here i.imm low near)
  given_at slot.Indexed i f near =
      ap (λ r. r >>= λ v. (register (pos i.x) >>= λ w. (register (pos i.b) >>= λ u. Some
      (record f { d = v; x = w; b = u })))) (displacement_is i.d (displacement_is_long i))
      ∙ ap₂ (λ p q. p >>= λ w. (q >>= λ u. Some (record f { d = i.d; x = w; b = u }))) (register_is i.x i.x_in)
      (register_is i.b i.b_in)
  given_at slot.Based i f near =
      ap₂ (λ p q. p >>= λ v. (q >>= λ u. Some (record f { d = v; b = u })))
      (displacement_is i.d (displacement_is_long i)) (register_is i.b i.b_in)
  given_at slot.Counted i f near =
      ap (λ r. r >>= λ v. (length_code (pos (modulo 8 i.imm + 1)) >>= λ w. (register (pos i.b) >>= λ u. Some
      (record f { d = v; imm = w; b = u })))) (displacement_is i.d (displacement_is_long i))
      ∙ ap₂ (λ p q. p >>= λ w. (q >>= λ u. Some (record f { d = i.d; imm = w; b = u }))) (length_is i.imm near)
      (register_is i.b i.b_in)
  given_at slot.SecondBased i f near =
      ap₂ (λ p q. p >>= λ v. (q >>= λ u. Some (record f { d2 = v; b2 = u })))
      (displacement_is i.d2 (second_is_long i)) (register_is i.b2 i.b2_in)

  all_given : (ss : List Slot) (i : Instr) (f : Fields) → AreInReach ss i.imm
      → fields_from here ss (map (made here) (operands_at ss (fields_of i))) f
      ≡ Some (all_shown ss (fields_of i) f)
  all_given [] i f near = ends here f
  all_given (s ∷ ss) i f near =
      goes here s ss _ _ f (shown s (fields_of i) f) (given_at s i f (and_left _ _ near))
      ∙ all_given ss i (shown s (fields_of i) f) (and_right _ _ near)

  pub given : (i : Instr)
      → fields_from here (slots (entry_at i.op.number).form) (map (made here) (operands_of i)) no_fields
      ≡ Some (fields_of i)
  given i =
      all_given (slots (entry_at i.op.number).form) i no_fields (immediate_in_reach i) ∙ ap Some (fields_are i)
