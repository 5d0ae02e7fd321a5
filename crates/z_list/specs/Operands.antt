-- The operands of an instruction in the listing, by what each stands for, and the text of each.
use Rattle.std.specs.Prelude.{ℕ, ◌+◌, ℤ, pos, negsuc, suc, ◌+ℤ◌, List, [], ◌∷◌, ◌++◌, map, codes}
use Rattle.std.specs.List.{flat_map}
use Rattle.std.specs.Fmt.{decimal, signed_decimal}
use Rattle.z_instr.specs.declared.form.Slot.{Slot}
use Rattle.z_instr.specs.declared.form.Slot.TheVariants as slot
use Rattle.z_instr.specs.declared.instr.Instr.{Instr}
use Rattle.z_instr.specs.declared.instr.Fields.{Fields}
use Rattle.z_instr.specs.Forms.{slots}
use Rattle.z_instr.specs.Made.{fields_of}
use Rattle.z_instr.specs.Reading.{modulo}
use Rattle.z_instr.specs.Table.{Entry, entry_at}
use Rattle.z_list.specs.declared.parts.Operand.{Operand}
use Rattle.z_list.specs.declared.parts.Operand.TheVariants.{Number, Target, Indexed, Based, Counted}

-- ---- which operands there are

-- The operand that stands for some of the fields. The distance of a target in bytes is twice that in halfwords, which
-- the instruction has, and the number of bytes is one more than the length code.
abbrev pub operand_at : Slot → Fields → Operand
operand_at slot.First f = Number (pos f.r1)
operand_at slot.Second f = Number (pos f.r2)
operand_at slot.Third f = Number (pos f.r3)
operand_at slot.Mask f = Number (pos f.mask)
operand_at slot.Immediate f = Number f.imm
operand_at slot.Compared f = Number f.d2
operand_at slot.Target f = Target (f.imm +ℤ f.imm)
operand_at slot.Indexed f = Indexed f.d f.x f.b
operand_at slot.Based f = Based f.d f.b
operand_at slot.Counted f = Counted f.d (modulo 8 f.imm + 1) f.b
operand_at slot.SecondBased f = Based f.d2 f.b2

abbrev pub operands_at : List Slot → Fields → List Operand
operands_at ss f = map (λ s. operand_at s f) ss

abbrev pub operands_by : Entry → Fields → List Operand
operands_by e f = operands_at (slots e.form) f

abbrev pub operands_of : Instr → List Operand
operands_of i = operands_by (entry_at i.op.number) (fields_of i)

-- ---- their texts

-- an asterisk for the instruction's own address, and the distance from it, always with a sign
abbrev pub target_text : ℤ → List ℕ
target_text (pos n) = codes "*+" ++ decimal n
target_text (negsuc n) = codes "*-" ++ decimal (suc n)

-- a displacement with a number behind it, in parentheses
abbrev pub based_text : ℤ → ℕ → List ℕ
based_text d b = signed_decimal d ++ (codes "(" ++ (decimal b ++ codes ")"))

-- a displacement with two numbers behind it, in parentheses
abbrev pub pair_text : ℤ → ℕ → ℕ → List ℕ
pair_text d m n = signed_decimal d ++ (codes "(" ++ (decimal m ++ (codes "," ++ (decimal n ++ codes ")"))))

abbrev pub operand_text : Operand → List ℕ
operand_text (Number z) = signed_decimal z
operand_text (Target distance) = target_text distance
operand_text (Indexed d x b) = pair_text d x b
operand_text (Based d b) = based_text d b
operand_text (Counted d count b) = pair_text d count b

-- operands, each behind a comma
abbrev pub further_text : List Operand → List ℕ
further_text operands = flat_map (λ (o : Operand). codes "," ++ operand_text o) operands

-- operands behind a blank, with commas between them; nothing where there are none
abbrev pub field_text : List Operand → List ℕ
field_text [] = []
field_text (o ∷ os) = codes " " ++ (operand_text o ++ further_text os)

-- the mnemonic of a row, and operands
abbrev pub words_text : Entry → Fields → List ℕ
words_text e f = e.name ++ field_text (operands_by e f)

unfoldable pub instruction_text : Instr → List ℕ
instruction_text i = words_text (entry_at i.op.number) (fields_of i)
