-- The instruction that bytes read as, computed: the row whose opcode they have in its place, the fields that
-- they hold by its format, and both kept where the instruction is spelled with these very bytes.
use Rattle.std.specs.Prelude.{◌≡◌, ℕ, ◌-◌, ◌*◌, ◌^◌, ℤ, pos, negsuc, nat_eq, nat_lt}
use Rattle.std.specs.Prelude.{Bool, true, false, T, cond, if◌then◌else◌, List, Option, Some, None}
use Rattle.std.specs.List.{position_or_len}
use Rattle.std.specs.Str.{bytes_eq}
use Rattle.std.proofs.Common.{refl, lit<}
use Rattle.z_instr.specs.declared.instr.Fields.{Fields}
use Rattle.z_instr.specs.declared.instr.Instr.{Instr}
use Rattle.z_instr.specs.declared.table.TheConstants.{ROWS}
use Rattle.z_instr.specs.declared.layout.Digit.{Digit}
use Rattle.z_instr.specs.Layout.{place}
use Rattle.z_instr.specs.Layouts.{layout_of, taken, width, has_signed_immediate, has_signed_displacement}
use Rattle.z_instr.specs.Places.{opcode_at}
use Rattle.z_instr.specs.Ranges.{are_within, limits_of}
use Rattle.z_instr.specs.Reading.{spelling}
use Rattle.z_instr.specs.Table.{Entry, table, entry_at}

-- ---- the row

abbrev pub has_opcode_of : List ℕ → Entry → Bool
has_opcode_of bytes e = nat_eq (opcode_at (place e.form) bytes) e.opcode

-- the number of the first row whose opcode the bytes have in its place; past the last row where there is none
unfoldable pub row_number : List ℕ → ℕ
row_number bytes = position_or_len (has_opcode_of bytes) table

-- ---- the fields

-- k bits as a number with a sign, as they are where the sign bit is zero
abbrev pub signed_number : ℕ → ℕ → ℤ
signed_number k n = if nat_lt n (2 ^ (k - 1)) then pos n else negsuc (2 ^ k - 1 - n)

-- k bits as a number with a sign or without
abbrev pub number : Bool → ℕ → ℕ → ℤ
number signed k n = cond signed (signed_number k n) (pos n)

-- the fields that bytes hold by a layout, with an immediate that has a sign or not
abbrev pub fields_in : List Digit → Bool → List ℕ → Fields
fields_in ds signed bytes =
    record {
      r1 = taken ds bytes 1;
      r2 = taken ds bytes 2;
      r3 = taken ds bytes 3;
      x = taken ds bytes 4;
      b = taken ds bytes 5;
      d = number (has_signed_displacement (width ds 6)) (4 * width ds 6) (taken ds bytes 6);
      b2 = taken ds bytes 7;
      d2 = number (has_signed_displacement (width ds 8)) (4 * width ds 8) (taken ds bytes 8);
      imm = number signed (4 * width ds 9) (taken ds bytes 9);
      mask = taken ds bytes 10;
    }

-- ---- the instruction

-- what is made where a test holds
abbrev pub where_holds : (test : Bool) → (T test → Option Instr) → Option Instr
where_holds true make = make tt
where_holds false make = None

-- the test as an equation
abbrev pub as_true : (test : Bool) → T test → test ≡ true
as_true true holds = refl
as_true false holds = absurd holds

abbrev pub are_allowed : ℕ → Fields → Bool
are_allowed n f = are_within (limits_of (entry_at n)) f.r1 f.r2 f.r3 f.x f.b f.d f.b2 f.d2 f.imm f.mask

-- the instruction of a row's number and of fields, where there is one
abbrev pub instruction_of : ℕ → Fields → Option Instr
instruction_of n f =
    where_holds (nat_lt n ROWS) (λ known.
    where_holds (nat_lt f.r1 16) (λ r1_in.
    where_holds (nat_lt f.r2 16) (λ r2_in.
    where_holds (nat_lt f.r3 16) (λ r3_in.
    where_holds (nat_lt f.x 16) (λ x_in.
    where_holds (nat_lt f.b 16) (λ b_in.
    where_holds (nat_lt f.b2 16) (λ b2_in.
    where_holds (nat_lt f.mask 16) (λ mask_in.
    where_holds (are_allowed n f) (λ shaped.
    Some record {
      op = record { number = n; known = lit< known };
      r1 = f.r1;
      r2 = f.r2;
      r3 = f.r3;
      x = f.x;
      b = f.b;
      d = f.d;
      b2 = f.b2;
      d2 = f.d2;
      imm = f.imm;
      mask = f.mask;
      r1_in = lit< r1_in;
      r2_in = lit< r2_in;
      r3_in = lit< r3_in;
      x_in = lit< x_in;
      b_in = lit< b_in;
      b2_in = lit< b2_in;
      mask_in = lit< mask_in;
      shaped = as_true (are_allowed n f) shaped;
    })))))))))

-- an instruction is kept where it is spelled with the bytes
abbrev pub only_if_spelled : List ℕ → Option Instr → Option Instr
only_if_spelled bytes None = None
only_if_spelled bytes (Some i) = if bytes_eq bytes (spelling (entry_at i.op.number) i) then Some i else None

-- the instruction of the bytes, in a row of a number
abbrev pub reading_in : ℕ → List ℕ → Option Instr
reading_in n bytes =
    let e = entry_at n in
    only_if_spelled bytes (instruction_of n (fields_in (layout_of e) (has_signed_immediate e) bytes))

-- the instruction that the bytes read as; None where they read as none
unfoldable pub reading_of : List ℕ → Option Instr
reading_of bytes = reading_in (row_number bytes) bytes
