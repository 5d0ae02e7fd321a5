-- The bytes of an instruction are those of its plain fields.
use Rattle.std.proofs.Common.{◌≡◌, ℕ, ℤ, true, List, Some, Ok, Err, if◌then◌else◌, sym, ap, ◌∙◌}
use Rattle.z_instr.specs.Made.{Has, fields_of}
use Rattle.z_instr.specs.Reading.{code, spelling, Reads}
use Rattle.z_instr.specs.Table.{entry_at}
use Rattle.z_instr.specs.declared.instr.Fields.{Fields}
use Rattle.z_instr.specs.declared.instr.Instr.{Instr}
use Rattle.z_instr.specs.declared.op.Op.{Op}
use Rattle.z_fields.specs.Chain.{◌>>=◌}
use Rattle.z_operands.specs.Code.{code_of}
use Rattle.z_operands.specs.Operands.{allowed, are_allowed}
use Rattle.z_fields.specs.declared.fault.Kind.TheVariants.{OutOfRange}

abbrev fields : ℕ → ℕ → ℕ → ℕ → ℕ → ℤ → ℕ → ℤ → ℤ → ℕ → Fields
fields r1 r2 r3 x b d b2 d2 imm mask = record
    { r1 = r1; r2 = r2; r3 = r3; x = x; b = b; d = d; b2 = b2; d2 = d2; imm = imm; mask = mask }

plain_is : (o : Op) (f : Fields) (i : Instr) → Has o f i → fields_of i ≡ f
plain_is o f i h =
    ap (λ v. fields v i.r2 i.r3 i.x i.b i.d i.b2 i.d2 i.imm i.mask) h.r1
    ∙ (ap (λ v. fields f.r1 v i.r3 i.x i.b i.d i.b2 i.d2 i.imm i.mask) h.r2
    ∙ (ap (λ v. fields f.r1 f.r2 v i.x i.b i.d i.b2 i.d2 i.imm i.mask) h.r3
    ∙ (ap (λ v. fields f.r1 f.r2 f.r3 v i.b i.d i.b2 i.d2 i.imm i.mask) h.x
    ∙ (ap (λ v. fields f.r1 f.r2 f.r3 f.x v i.d i.b2 i.d2 i.imm i.mask) h.b
    ∙ (ap (λ v. fields f.r1 f.r2 f.r3 f.x f.b v i.b2 i.d2 i.imm i.mask) h.d
    ∙ (ap (λ v. fields f.r1 f.r2 f.r3 f.x f.b f.d v i.d2 i.imm i.mask) h.b2
    ∙ (ap (λ v. fields f.r1 f.r2 f.r3 f.x f.b f.d f.b2 v i.imm i.mask) h.d2
    ∙ (ap (λ v. fields f.r1 f.r2 f.r3 f.x f.b f.d f.b2 f.d2 v i.mask) h.imm
    ∙ ap (λ v. fields f.r1 f.r2 f.r3 f.x f.b f.d f.b2 f.d2 f.imm v) h.mask))))))))

pub reads_code : (o : Op) (f : Fields) (i : Instr) (bytes : List ℕ) → Has o f i → Reads bytes i →
    code_of (entry_at o.number) f ≡ bytes
unfolding code_of
reads_code o f i bytes h r =
    sym (r
    ∙ (ap (λ n. spelling (entry_at n) i) h.op ∙ ap (code (entry_at o.number)) (plain_is o f i h)))

pub allowed_code : (o : Op) (f : Fields) (i : Instr) (bytes : List ℕ) →
    are_allowed (entry_at o.number) f ≡ true → Has o f i → Reads bytes i →
    (allowed (entry_at o.number) (Some f) >>= λ g. Ok (code_of (entry_at o.number) g)) ≡ Ok bytes
allowed_code o f i bytes a h r =
    ap (λ b. (if b then Ok f else Err OutOfRange) >>= λ g. Ok (code_of (entry_at o.number) g)) a
    ∙ ap Ok (reads_code o f i bytes h r)
