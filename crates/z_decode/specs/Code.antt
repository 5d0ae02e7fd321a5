-- What fills the six bytes of a code behind an instruction, which layouts the code can spell and read, and the
-- fields of the numbers that were read.
use Rattle.std.specs.Prelude.{ℕ, ◌<◌, ◌+◌, ◌-◌, ◌*◌, ◌^◌, List, [], ◌∷◌, get_or, Bool, nat_eq, nat_lt, if◌then◌else◌}
use Rattle.std.specs.Prelude.{ℤ, pos, negsuc}
use Rattle.z_instr.specs.declared.instr.Fields.{Fields}
use Rattle.z_instr.specs.declared.layout.Digit.{Digit}
use Rattle.z_instr.specs.declared.limits.Bounds.{Bounds}
use Rattle.z_instr.specs.Layouts.{is_of}
use Rattle.z_instr.specs.Ranges.{limits_of}
use Rattle.z_instr.specs.Table.{Entry}

-- zeros up to the sixth byte, after two, four or six
abbrev pub zeros_after : ℕ → List ℕ
zeros_after length =
    if nat_eq length 2 then 0 ∷ 0 ∷ 0 ∷ 0 ∷ [] else if nat_eq length 4 then 0 ∷ 0 ∷ [] else []

-- the first six bytes, zeros where there are fewer
abbrev pub six : List ℕ → List ℕ
six s = get_or s 0 0 ∷ get_or s 1 0 ∷ get_or s 2 0 ∷ get_or s 3 0 ∷ get_or s 4 0 ∷ get_or s 5 0 ∷ []

-- a digit of the last 32 bits
abbrev pub is_small : Digit → Bool
is_small d = nat_lt d.index 8

-- what half a byte adds to the number of a field, where it stands in the place of a digit
abbrev pub part : Digit → ℕ → ℕ → ℕ
part d half field = if is_of field d then half * 16 ^ d.index else 0

-- the number among bounds whose last bits are a number from 0 up: as it is where it is among them, else below 0
abbrev pub among : Bounds → ℕ → ℤ
among r n = if nat_lt n r.above then pos n else negsuc (r.above + r.below - 1 - n)

-- the fields of a row's instruction, by their numbers from 0 up
abbrev pub fields_by : Entry → (ℕ → ℕ) → Fields
fields_by e v =
    record {
      r1 = v 1;
      r2 = v 2;
      r3 = v 3;
      x = v 4;
      b = v 5;
      d = among (limits_of e).d (v 6);
      b2 = v 7;
      d2 = among (limits_of e).d2 (v 8);
      imm = among (limits_of e).imm (v 9);
      mask = v 10;
    }

-- the numbers are as small as the fields of a row's instructions
pub record AreSmall (e : Entry) (v : ℕ → ℕ) : Type 0 where
  pub r1 : v 1 < 16
  pub r2 : v 2 < 16
  pub r3 : v 3 < 16
  pub x : v 4 < 16
  pub b : v 5 < 16
  pub d : v 6 < (limits_of e).d.above + (limits_of e).d.below
  pub b2 : v 7 < 16
  pub d2 : v 8 < (limits_of e).d2.above + (limits_of e).d2.below
  pub imm : v 9 < (limits_of e).imm.above + (limits_of e).imm.below
  pub mask : v 10 < 16
