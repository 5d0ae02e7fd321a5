-- The operands of an instruction, with its operation, tell all its fields.
use Rattle.std.proofs.Common.{◌≡◌, ◌+◌, ◌<◌, List, [], ◌∷◌, true, arith, refl, sym, ap, ◌∙◌, subst}
use Rattle.std.specs.Prelude.{ℤ, pos, negsuc, ◌+ℤ◌}
use Rattle.std.proofs.lemmas.Int.{ints}
use Rattle.std.proofs.lemmas.Bool.{ltb-true}
use Rattle.z_instr.specs.declared.form.Slot.{Slot}
use Rattle.z_instr.specs.declared.form.Slot.TheVariants.{First, Second, Third, Mask, Immediate, Compared, Target, Indexed, Based, Counted, SecondBased}
use Rattle.z_instr.specs.declared.instr.Instr.{Instr}
use Rattle.z_instr.specs.declared.instr.Fields.{Fields}
use Rattle.z_instr.specs.Forms.{slots}
use Rattle.z_instr.specs.Made.{no_fields, fields_of}
use Rattle.z_instr.specs.Ranges.{is_within, byte}
use Rattle.z_instr.specs.Reading.{modulo}
use Rattle.z_instr.specs.Table.{entry_at}
use Rattle.z_instr.proofs.Passing.{and_left, and_right}
use Rattle.z_instr.proofs.SameInstr.{from_fields}
use Rattle.z_list.specs.Operands.{operand_at, operands_at, operands_by, operands_of}
use Rattle.z_list.proofs.Distances.{reach, AreInReach, immediate_in_reach}
use Rattle.z_list.proofs.Shown.{shown, all_shown, fields_are}

-- ---- numbers that are printed otherwise than they stand

doubled : (y z : ℤ) → y +ℤ y ≡ z +ℤ z → y ≡ z
doubled y z is = omega (arith, ints)

same_code : (y z : ℤ) → is_within byte y ≡ true → is_within byte z ≡ true → modulo 8 y + 1 ≡ modulo 8 z + 1
    → y ≡ z
same_code (pos m) (pos n) few also is =
    let a : m < 256 = ltb-true m 256 few in
    let b : n < 256 = ltb-true n 256 also in
    let e : m ≡ n = omega arith in
    cc
same_code (pos m) (negsuc n) few also is = let b : n < 0 = ltb-true n 0 also in absurd (omega arith)
same_code (negsuc m) z few also is = let a : m < 0 = ltb-true m 0 few in absurd (omega arith)

-- ---- the fields that equal operands stand for

told : (s : Slot) (f g others : Fields) → is_within (reach s) f.imm ≡ true → is_within (reach s) g.imm ≡ true
    → operand_at s f ≡ operand_at s g → shown s f others ≡ shown s g others
told First f g others few also is = let same : f.r1 ≡ g.r1 = cc in λ k. record others { r1 = same k }
told Second f g others few also is = let same : f.r2 ≡ g.r2 = cc in λ k. record others { r2 = same k }
told Third f g others few also is = let same : f.r3 ≡ g.r3 = cc in λ k. record others { r3 = same k }
told Mask f g others few also is = let same : f.mask ≡ g.mask = cc in λ k. record others { mask = same k }
told Immediate f g others few also is = let same : f.imm ≡ g.imm = cc in λ k. record others { imm = same k }
told Compared f g others few also is = let same : f.d2 ≡ g.d2 = cc in λ k. record others { d2 = same k }
told Target f g others few also is =
    let same = doubled f.imm g.imm (cc) in λ k. record others { imm = same k }
told Indexed f g others few also is =
    let d : f.d ≡ g.d = cc in
    let x : f.x ≡ g.x = cc in
    let b : f.b ≡ g.b = cc in
    λ k. record others { d = d k; x = x k; b = b k }
told Based f g others few also is =
    let d : f.d ≡ g.d = cc in
    let b : f.b ≡ g.b = cc in
    λ k. record others { d = d k; b = b k }
told Counted f g others few also is =
    let d : f.d ≡ g.d = cc in
    let imm = same_code f.imm g.imm few also (cc) in
    let b : f.b ≡ g.b = cc in
    λ k. record others { d = d k; imm = imm k; b = b k }
told SecondBased f g others few also is =
    let d2 : f.d2 ≡ g.d2 = cc in
    let b2 : f.b2 ≡ g.b2 = cc in
    λ k. record others { d2 = d2 k; b2 = b2 k }

all_told : (ss : List Slot) (f g others : Fields) → AreInReach ss f.imm → AreInReach ss g.imm
    → operands_at ss f ≡ operands_at ss g → all_shown ss f others ≡ all_shown ss g others
all_told [] f g others few also is = refl
all_told (s ∷ ss) f g others few also is =
    ap (all_shown ss f) (told s f g others (and_left _ _ few) (and_left _ _ also) (cc))
    ∙ all_told ss f g (shown s g others) (and_right _ _ few) (and_right _ _ also) (cc)

-- instructions of one operation with the same operands are the same
pub one_instruction : (i j : Instr) → i.op.number ≡ j.op.number → operands_of i ≡ operands_of j → i ≡ j
one_instruction i j op is =
    let ss = slots (entry_at i.op.number).form in
    let reach_j = subst (λ n. AreInReach (slots (entry_at n).form) j.imm) (sym op) (immediate_in_reach j) in
    let fields_j = subst (λ n. all_shown (slots (entry_at n).form) (fields_of j) no_fields ≡ fields_of j) (sym op)
    (fields_are j) in
    let is_j = subst (λ n. operands_of i ≡ operands_by (entry_at n) (fields_of j)) (sym op) is in
    from_fields i j op
    (sym (fields_are i)
    ∙ all_told ss (fields_of i) (fields_of j) no_fields (immediate_in_reach i) reach_j is_j
    ∙ fields_j)
