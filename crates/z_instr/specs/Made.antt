-- Instructions of plain fields.
use Rattle.std.specs.Prelude.{◌≡◌, IsTrue, pos}
use Rattle.z_instr.specs.declared.op.Op.{Op}
use Rattle.z_instr.specs.declared.instr.Instr.{Instr}
use Rattle.z_instr.specs.declared.instr.Fields.{Fields}
use Rattle.z_instr.specs.Table.{entry_at}
use Rattle.z_instr.specs.Ranges.{are_within, limits_of}

-- all fields 0
abbrev pub no_fields : Fields
no_fields =
    record { r1 = 0; r2 = 0; r3 = 0; x = 0; b = 0; d = pos 0; b2 = 0; d2 = pos 0; imm = pos 0; mask = 0 }

-- each field is one that the row's format allows
abbrev pub IsAllowed : Op → Fields → Type 0
IsAllowed op f =
    IsTrue (are_within (limits_of (entry_at op.number)) f.r1 f.r2 f.r3 f.x f.b f.d f.b2 f.d2 f.imm f.mask)

-- the instruction has the operation and the fields
pub record Has (o : Op) (f : Fields) (i : Instr) : Type 0 where
  pub op : i.op.number ≡ o.number
  pub r1 : i.r1 ≡ f.r1
  pub r2 : i.r2 ≡ f.r2
  pub r3 : i.r3 ≡ f.r3
  pub x : i.x ≡ f.x
  pub b : i.b ≡ f.b
  pub d : i.d ≡ f.d
  pub b2 : i.b2 ≡ f.b2
  pub d2 : i.d2 ≡ f.d2
  pub imm : i.imm ≡ f.imm
  pub mask : i.mask ≡ f.mask

-- the plain fields of an instruction
abbrev pub fields_of : Instr → Fields
fields_of i =
    record {
      r1 = i.r1;
      r2 = i.r2;
      r3 = i.r3;
      x = i.x;
      b = i.b;
      d = i.d;
      b2 = i.b2;
      d2 = i.d2;
      imm = i.imm;
      mask = i.mask;
    }
