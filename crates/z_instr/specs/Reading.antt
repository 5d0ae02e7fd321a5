-- Which bytes read as an instruction.
use Rattle.std.specs.Prelude.{◌≡◌, ℕ, ◌<◌, ◌%◌, ◌-◌, ◌^◌, ℤ, pos, negsuc, List, [], ◌∷◌, get_or}
use Rattle.z_instr.specs.declared.instr.Instr.{Instr}
use Rattle.z_instr.specs.declared.instr.Fields.{Fields}
use Rattle.z_instr.specs.Layouts.{layout_of, spelled}
use Rattle.z_instr.specs.Made.{fields_of}
use Rattle.z_instr.specs.Table.{Entry, entry_at}

-- each is a byte
abbrev pub AreBytes : List ℕ → Type 0
AreBytes bytes = (k : ℕ) → get_or bytes k 0 < 256

-- the k bits of a number with a sign, as a number from 0 up
abbrev pub modulo : ℕ → ℤ → ℕ
modulo k (pos n) = n % 2 ^ k
modulo k (negsuc n) = 2 ^ k - 1 - n % 2 ^ k

-- the numbers of the fields, by their ranks: those of numbers with a sign are their last 32 bits
abbrev pub numbers : ℕ → Fields → List ℕ
numbers opcode f =
    opcode ∷ f.r1 ∷ f.r2 ∷ f.r3 ∷ f.x ∷ f.b ∷ modulo 32 f.d ∷ f.b2 ∷ modulo 32 f.d2 ∷ modulo 32 f.imm ∷ f.mask
    ∷ 0 ∷ []

abbrev pub number_of : ℕ → Fields → ℕ → ℕ
number_of opcode f rank = get_or (numbers opcode f) rank 0

-- the bytes of a row's instruction of these fields
abbrev pub code : Entry → Fields → List ℕ
code e f = spelled (layout_of e) (number_of e.opcode f)

abbrev pub spelling : Entry → Instr → List ℕ
spelling e i = code e (fields_of i)

-- the bytes read as the instruction
abbrev pub Reads : List ℕ → Instr → Type 0
Reads bytes i = bytes ≡ spelling (entry_at i.op.number) i

-- the instructions have one operation, and the same fields
pub record AreSame (i j : Instr) : Type 0 where
  pub op : i.op.number ≡ j.op.number
  pub r1 : i.r1 ≡ j.r1
  pub r2 : i.r2 ≡ j.r2
  pub r3 : i.r3 ≡ j.r3
  pub x : i.x ≡ j.x
  pub b : i.b ≡ j.b
  pub d : i.d ≡ j.d
  pub b2 : i.b2 ≡ j.b2
  pub d2 : i.d2 ≡ j.d2
  pub imm : i.imm ≡ j.imm
  pub mask : i.mask ≡ j.mask
