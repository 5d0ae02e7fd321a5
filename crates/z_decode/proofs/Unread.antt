-- When bytes read as nothing.
use Rattle.std.proofs.Common.{◌≡◌, ℕ, List, sym, ap, subst, ◌∙◌}
use Rattle.std.specs.Prelude.{Option, Some, None, IfNone, IsTrue}
use Rattle.z_instr.specs.declared.instr.Fields.{Fields}
use Rattle.z_instr.specs.declared.instr.Instr.{Instr}
use Rattle.z_instr.specs.declared.op.Op.{Op}
use Rattle.z_instr.specs.Table.{entry_at}
use Rattle.z_instr.specs.Layouts.{layout_of, has_signed_immediate}
use Rattle.z_instr.specs.Made.{IsAllowed, Has, fields_of}
use Rattle.z_instr.specs.Places.{HasOpcode}
use Rattle.z_instr.specs.Ranges.{are_within, limits_of}
use Rattle.z_instr.specs.Reading.{AreBytes, Reads}
use Rattle.z_instr.specs.Computing.{fields_in}
use Rattle.z_instr.proofs.Distinct.{one_row}
use Rattle.z_instr.proofs.OneReading.{own}
use Rattle.z_instr.proofs.SameInstr.{same_instr}
use Rattle.z_instr.proofs.Spelled.{reads_opcode}

-- the fields that bytes hold by a row
abbrev apart : ℕ → List ℕ → Fields
apart n bytes = fields_in (layout_of (entry_at n)) (has_signed_immediate (entry_at n)) bytes

-- the row and the fields of bytes are those of the instruction that they read as
pub record Found (o : Op) (f : Fields) (i : Instr) : Type 0 where
  pub row : o.number ≡ i.op.number
  pub fields : f ≡ fields_of i

pub found : (o : Op) (f : Fields) (bytes : List ℕ) (i : Instr) → AreBytes bytes →
    HasOpcode (entry_at o.number) bytes → f ≡ apart o.number bytes → Reads bytes i → Found o f i
found o f bytes i b h e r =
    let row = one_row o.number i.op.number bytes o.known i.op.known b h (reads_opcode bytes i r) in
    record { row = row; fields = e ∙ ap (λ n. apart n bytes) row ∙ own bytes i r }

abbrev AllowedIn : ℕ → Fields → Type 0
AllowedIn n f =
    IsTrue (are_within (limits_of (entry_at n)) f.r1 f.r2 f.r3 f.x f.b f.d f.b2 f.d2 f.imm f.mask)

-- so the row allows them
pub allowed : (o : Op) (f : Fields) (i : Instr) → Found o f i → IsAllowed o f
allowed o f i h =
    subst (λ n. AllowedIn n f) (sym h.row) (subst (λ g. AllowedIn i.op.number g) (sym h.fields) i.shaped)

-- and an instruction that is made of them is that one
pub made : (o : Op) (f : Fields) (j i : Instr) → Has o f j → Found o f i → j ≡ i
made o f j i h g =
    same_instr j i (record {
      op = h.op ∙ g.row;
      r1 = h.r1 ∙ ap (λ (k : Fields). k.r1) g.fields;
      r2 = h.r2 ∙ ap (λ (k : Fields). k.r2) g.fields;
      r3 = h.r3 ∙ ap (λ (k : Fields). k.r3) g.fields;
      x = h.x ∙ ap (λ (k : Fields). k.x) g.fields;
      b = h.b ∙ ap (λ (k : Fields). k.b) g.fields;
      d = h.d ∙ ap (λ (k : Fields). k.d) g.fields;
      b2 = h.b2 ∙ ap (λ (k : Fields). k.b2) g.fields;
      d2 = h.d2 ∙ ap (λ (k : Fields). k.d2) g.fields;
      imm = h.imm ∙ ap (λ (k : Fields). k.imm) g.fields;
      mask = h.mask ∙ ap (λ (k : Fields). k.mask) g.fields;
    })

-- what follows from what a clause says where there is no value
pub IfNone_then : {X : Type 0} (r : Option X) {P Q : Type 0} → IfNone r P → (P → Q) → IfNone r Q
IfNone_then (Some x) h f = tt
IfNone_then None h f = f h
