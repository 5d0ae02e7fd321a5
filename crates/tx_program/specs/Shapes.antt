-- The shape of an instruction's operand, and when it lies where a plain instruction may touch it.
use Rattle.std.specs.Prelude.{◌≡◌, ℕ, ◌+◌, ◌*◌, ◌≤◌, length, ◌/◌, ◌%◌, Bool, true, false, ◌&&◌, ◌||◌, not, cond, nat_eq, nat_lt, nat_le}
use Rattle.std.specs.Prelude.{List, [], ◌∷◌, Some, None}
use Rattle.std.specs.List.{list_any}
use Rattle.z_regs.specs.Prefix.{storage_size}
use Rattle.z_regs.specs.declared.ranges.Range.{Range}
use Rattle.z_instr.specs.Operands.{bytes_of, registers_between}
use Rattle.z_instr.specs.Reading.{modulo}
use Rattle.z_instr.specs.Roles.{sets_access_register, begins}
use Rattle.z_instr.specs.Table.{Entry, entry_at}
use Rattle.z_instr.specs.Access.{accessible_pages, text_pages, unfetched}
use Rattle.z_instr.specs.declared.instr.Instr.{Instr}
use Rattle.z_instr.specs.declared.operand.Size.{Size}
use Rattle.z_instr.specs.declared.operand.Size.TheVariants.{Byte}
use Rattle.z_instr.specs.declared.operand.Operands.{Operands}
use Rattle.z_instr.specs.declared.operand.Operands.TheVariants.{Absent, Fetched, Stored, FetchedMany, StoredMany}
use Rattle.z_instr.specs.declared.operand.Demand.{Demand}
use Rattle.z_instr.specs.declared.operand.Demand.TheVariants as demand
use Rattle.tx_journal.specs.Image.{length_at}
use Rattle.tx_program.specs.Programs.{read_at}
use Rattle.tx_program.specs.declared.ready.Ready.{Ready}
use Rattle.tx_program.specs.declared.ready.Shape.{Shape}
use Rattle.tx_program.specs.declared.ready.Touch.{Touch}
use Rattle.tx_program.specs.declared.ready.Touch.TheVariants as touch

abbrev pub no_shape : Shape
no_shape = record { touch = touch.Other; size = 0; boundary = Byte }

abbrev pub shape_in : Operands → Size → Instr → Shape
shape_in Absent b i = record { touch = touch.Nothing; size = 0; boundary = b }
shape_in (Fetched size) b i = record { touch = touch.Fetch; size = bytes_of size; boundary = b }
shape_in (Stored size) b i = record { touch = touch.Store; size = bytes_of size; boundary = b }
shape_in (FetchedMany size) b i =
    record { touch = touch.Fetch; size = registers_between i.r1 i.r3 * bytes_of size; boundary = b }
shape_in (StoredMany size) b i =
    record { touch = touch.Store; size = registers_between i.r1 i.r3 * bytes_of size; boundary = b }
shape_in _ b i = no_shape

abbrev pub boundary_size : Operands → Size
boundary_size (Stored size) = size
boundary_size (Fetched size) = size
boundary_size _ = Byte

-- a begin names no block, and a filtering of program interruptions that there is
abbrev pub is_bare_begin : Instr → Bool
is_bare_begin i = nat_eq i.b 0 && not (nat_eq (modulo 16 i.imm % 4) 3)

-- of an instruction that demands nothing but a boundary, and of begins without a block
abbrev pub shape_by : Demand → Operands → Instr → Shape
shape_by demand.Nothing o i = shape_in o Byte i
shape_by demand.Boundary o i = shape_in o (boundary_size o) i
shape_by demand.Begin o i = cond (is_bare_begin i) (shape_in o Byte i) no_shape
shape_by demand.BeginConstrained o i = cond (nat_eq i.b 0) (shape_in o Byte i) no_shape
shape_by _ o i = no_shape

abbrev pub is_other : Touch → Bool
is_other touch.Other = true
is_other _ = false

abbrev pub is_nothing : Touch → Bool
is_nothing touch.Nothing = true
is_nothing _ = false

-- a transaction may have it whatever its begins allow and however many they are
abbrev pub is_admitted : Entry → Bool
is_admitted e = not (e.restricted || (sets_access_register e || begins e))

-- where its shape is known, it can be fetched, and has the operand that its row says
pub record IsShaped (fetched : Bool) (r : Ready) : Type 0 where
  pub fetches : is_other r.shape.touch ≡ false → fetched ≡ true
  pub shape : is_other r.shape.touch ≡ false
      → r.shape ≡ shape_by (entry_at r.instr.op.number).demand (entry_at r.instr.op.number).operands r.instr
  pub admitted : r.admitted ≡ is_admitted (entry_at r.instr.op.number)

-- what is read at an address, six bytes or more before the end of storage, and what is known of it
pub record IsReady (storage text : List ℕ) (place : ℕ) (r : Ready) : Type 0 where
  pub read : read_at storage place ≡ Some r.instr
  pub size : length storage ≡ storage_size
  pub ends : place + 6 ≤ storage_size
  pub fetches : is_other r.shape.touch ≡ false
      → unfetched (accessible_pages None) (text_pages None text) place (length_at storage place) ≡ None
  pub shape : is_other r.shape.touch ≡ false
      → r.shape ≡ shape_by (entry_at r.instr.op.number).demand (entry_at r.instr.op.number).operands r.instr
  pub admitted : r.admitted ≡ is_admitted (entry_at r.instr.op.number)

-- ---- the operand at an address

abbrev pub touched_by : Touch → ℕ → ℕ → List Range
touched_by touch.Nothing first size = []
touched_by touch.Fetch first size = record { first = first; length = size; store = false } ∷ []
touched_by touch.Store first size = record { first = first; length = size; store = true } ∷ []
touched_by touch.Other first size = []

-- some bytes lie in one line of storage that a CPU without a prefix may use
abbrev pub is_in_line : ℕ → ℕ → Bool
is_in_line first size = nat_le 8192 first && (nat_lt first storage_size && nat_le (first % 256 + size) 256)

-- and where they are stored, in no text page
abbrev pub is_open : Touch → ℕ → ℕ → List ℕ → Bool
is_open touch.Nothing first size text = true
is_open touch.Fetch first size text = is_in_line first size
is_open touch.Store first size text = is_in_line first size && not (list_any (nat_eq (first / 4096)) text)
is_open touch.Other first size text = false

-- the same where there are no text pages
abbrev pub is_placed : Shape → ℕ → Bool
is_placed s first = is_open s.touch first s.size []

-- and on their boundary
abbrev pub is_reached : Shape → ℕ → List ℕ → Bool
is_reached s first text = nat_eq (first % bytes_of s.boundary) 0 && is_open s.touch first s.size text
