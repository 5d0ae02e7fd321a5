-- No bytes have two readings.
use Rattle.std.proofs.Common.{◌≡◌, ℕ, List, sym, ap, ◌∙◌}
use Rattle.z_instr.specs.declared.instr.Instr.{Instr}
use Rattle.z_instr.specs.declared.instr.Fields.{Fields}
use Rattle.z_instr.specs.Table.{entry_at}
use Rattle.z_instr.specs.Layouts.{layout_of, has_signed_immediate}
use Rattle.z_instr.specs.Made.{fields_of}
use Rattle.z_instr.specs.Reading.{AreBytes, AreSame, Reads}
use Rattle.z_instr.specs.Computing.{fields_in}
use Rattle.z_instr.proofs.Distinct.{one_row}
use Rattle.z_instr.proofs.Spelled.{reads_opcode}
use Rattle.z_instr.proofs.TakenApart.{taken_apart}

-- the fields that bytes hold by a row's layout
abbrev apart : List ℕ → ℕ → Fields
apart bytes n = fields_in (layout_of (entry_at n)) (has_signed_immediate (entry_at n)) bytes

pub own : (bytes : List ℕ) (i : Instr) → Reads bytes i → apart bytes i.op.number ≡ fields_of i
own bytes i r = ap (λ s. apart s i.op.number) r ∙ taken_apart i

pub one_reading : (bytes : List ℕ) (i j : Instr) → AreBytes bytes → Reads bytes i → Reads bytes j →
    AreSame i j
one_reading bytes i j b r t =
    let op = one_row i.op.number j.op.number bytes i.op.known j.op.known b (reads_opcode bytes i r)
    (reads_opcode bytes j t) in
    let same : fields_of i ≡ fields_of j = sym (own bytes i r) ∙ ap (apart bytes) op ∙ own bytes j t in
    record {
      op = op;
      r1 = ap (λ (f : Fields). f.r1) same;
      r2 = ap (λ (f : Fields). f.r2) same;
      r3 = ap (λ (f : Fields). f.r3) same;
      x = ap (λ (f : Fields). f.x) same;
      b = ap (λ (f : Fields). f.b) same;
      d = ap (λ (f : Fields). f.d) same;
      b2 = ap (λ (f : Fields). f.b2) same;
      d2 = ap (λ (f : Fields). f.d2) same;
      imm = ap (λ (f : Fields). f.imm) same;
      mask = ap (λ (f : Fields). f.mask) same;
    }
