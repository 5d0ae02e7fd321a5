-- The operands in storage of an instruction, and the tests that it has to pass before it is executed.
use Rattle.std.specs.Prelude.{◌≡◌, ℕ, ◌<◌, ◌≤◌, ◌+◌, ◌*◌, ◌-◌, ◌/◌, ◌%◌, zero, suc, ℤ, pos, ◌+ℤ◌, Bool, true, false, ◌&&◌, ◌||◌, not, cond, nat_eq, nat_lt, List, [], ◌∷◌, get_or, Option, Some, None}
use Rattle.std.specs.List.{list_any, list_all}
use Rattle.z_instr.specs.declared.instr.Instr.{Instr}
use Rattle.z_instr.specs.declared.operand.Size.{Size}
use Rattle.z_instr.specs.declared.operand.Size.TheVariants.{Byte, Halfword, Word, Doubleword}
use Rattle.z_instr.specs.declared.operand.Operands.{Operands}
use Rattle.z_instr.specs.declared.operand.Operands.TheVariants.{Absent, Fetched, Stored, FetchedMany, StoredMany, FetchedSelected, StoredSelected, StoredAndFetched, BothFetched}
use Rattle.z_instr.specs.declared.operand.Demand.{Demand}
use Rattle.z_instr.specs.declared.operand.Demand.TheVariants.{Nothing, EvenPair, Boundary, AbortCode, Begin, BeginConstrained, ServiceZero}
use Rattle.z_instr.specs.Table.{Entry, entry_at}
use Rattle.z_instr.specs.Reading.{modulo}

-- ---- addresses

-- what a register adds to an address: register number 0 stands for zero
abbrev pub part : List ℕ → ℕ → ℕ
part general r = cond (nat_eq r 0) 0 (get_or general r 0)

-- base, index and displacement, modulo 2 ^ 64
abbrev pub address : List ℕ → ℕ → ℕ → ℤ → ℕ
address general b x d = modulo 64 (pos (part general b + part general x) +ℤ d)

abbrev pub first_address : Instr → List ℕ → ℕ
first_address i general = address general i.b i.x i.d

abbrev pub second_address : Instr → List ℕ → ℕ
second_address i general = address general i.b2 0 i.d2

-- ---- ranges

-- some bytes of storage, at least one: the first address, how many, and whether they are stored
pub record Span : Type 0 where
  pub first : ℕ
  pub length : ℕ
  pub store : Bool

abbrev pub span : ℕ → ℕ → Bool → Span
span first length store = record { first = first; length = length; store = store }

-- no operand has more bytes than 256
pub record IsSmall (s : Span) : Type 0 where
  pub some : 0 < s.length
  pub most : s.length ≤ 256

-- numbers one after the other
abbrev pub from_up : ℕ → ℕ → List ℕ
from_up first zero = []
from_up first (suc n) = first ∷ from_up (suc first) n

-- the numbers of the pieces of some size that hold a byte of the range: its pages, lines, blocks, octowords
abbrev pub pieces : ℕ → Span → List ℕ
pieces size s =
    let first = s.first / size in
    let last = (s.first + s.length - 1) / size in
    from_up first (last + 1 - first)

-- some byte of the range is in the piece
abbrev pub HoldsByteOf : ℕ → Span → ℕ → Type 0
HoldsByteOf size s piece = (k : ℕ) × (k < s.length) × ((s.first + k) / size ≡ piece)

abbrev pub bytes_of : Size → ℕ
bytes_of Byte = 1
bytes_of Halfword = 2
bytes_of Word = 4
bytes_of Doubleword = 8

-- how many registers stand from one up to another, 0 after 15
abbrev pub registers_between : ℕ → ℕ → ℕ
registers_between r1 r3 = (r3 + 16 - r1) % 16 + 1

-- a mask selects a condition code where its bit is one, counted from the left
abbrev pub selects : ℕ → ℕ → Bool
selects mask zero = nat_eq (mask / 8 % 2) 1
selects mask (suc zero) = nat_eq (mask / 4 % 2) 1
selects mask (suc (suc zero)) = nat_eq (mask / 2 % 2) 1
selects mask (suc (suc (suc code))) = nat_eq (mask % 2) 1

-- how many bytes the length code stands for
abbrev pub length_of : Instr → ℕ
length_of i = modulo 8 i.imm + 1

-- the operands of an instruction, in order, by the general registers and the condition code
unfoldable pub spans_in : Operands → Instr → List ℕ → ℕ → List Span
spans_in Absent i general code = []
spans_in (Fetched size) i general code = span (first_address i general) (bytes_of size) false ∷ []
spans_in (Stored size) i general code = span (first_address i general) (bytes_of size) true ∷ []
spans_in (FetchedMany size) i general code =
    span (first_address i general) (registers_between i.r1 i.r3 * bytes_of size) false ∷ []
spans_in (StoredMany size) i general code =
    span (first_address i general) (registers_between i.r1 i.r3 * bytes_of size) true ∷ []
spans_in FetchedSelected i general code =
    cond (selects i.mask code) (span (first_address i general) 8 false ∷ []) []
spans_in StoredSelected i general code =
    cond (selects i.mask code) (span (first_address i general) 8 true ∷ []) []
spans_in StoredAndFetched i general code =
    span (first_address i general) (length_of i) true ∷
    span (second_address i general) (length_of i) false ∷ []
spans_in BothFetched i general code =
    span (first_address i general) (length_of i) false ∷
    span (second_address i general) (length_of i) false ∷ []

abbrev pub spans : Instr → List ℕ → ℕ → List Span
spans i general code = spans_in (entry_at i.op.number).operands i general code

-- ---- special operation, then specification

abbrev pub special_operation : ℕ
special_operation = 0x13

abbrev pub specification : ℕ
specification = 0x06

abbrev pub addressing : ℕ
addressing = 0x05

abbrev pub protection : ℕ
protection = 0x04

abbrev pub operation : ℕ
operation = 0x01

-- an exception where something is wrong
abbrev pub where_wrong : Bool → ℕ → Option ℕ → Option ℕ
where_wrong wrong exception else = cond wrong (Some exception) else

-- the boundary that the first operand stands on: the bytes of its item
abbrev pub boundary : Operands → ℕ
boundary (Stored size) = bytes_of size
boundary (Fetched size) = bytes_of size
boundary _ = 1

-- the code of the exception, by the general registers and the nesting depth
unfoldable pub unspecified_in : Demand → Operands → Instr → List ℕ → ℕ → Option ℕ
unspecified_in Nothing operands i general depth = None
unspecified_in EvenPair operands i general depth = where_wrong (nat_eq (i.r1 % 2) 1) specification None
unspecified_in Boundary operands i general depth =
    where_wrong (not (nat_eq (first_address i general % boundary operands) 0)) specification None
unspecified_in AbortCode operands i general depth =
    where_wrong (nat_eq depth 0) special_operation
    (where_wrong (nat_lt (first_address i general) 256) specification None)
unspecified_in Begin operands i general depth =
    where_wrong (nat_eq (modulo 16 i.imm % 4) 3 ||
    (not (nat_eq i.b 0) && not (nat_eq (first_address i general % 8) 0))) specification None
unspecified_in BeginConstrained operands i general depth = where_wrong (not (nat_eq i.b 0)) specification None
unspecified_in ServiceZero operands i general depth = None

abbrev pub unspecified : Instr → List ℕ → ℕ → Option ℕ
unspecified i general depth =
    let e = entry_at i.op.number in unspecified_in e.demand e.operands i general depth

-- ---- addressing for each operand, then protection for each stored one, then the number of a service call

-- what is tested: the operands, or the block that the outermost begin names, as a stored one
abbrev pub tested_spans : Demand → List Span → Instr → List ℕ → ℕ → List Span
tested_spans Begin operands i general depth =
    cond (nat_eq depth 0 && not (nat_eq i.b 0)) (span (first_address i general) 256 true ∷ []) operands
tested_spans _ operands i general depth = operands

-- each page of the range is among the pages
abbrev pub is_inside : List ℕ → Span → Bool
is_inside pages s = list_all (λ p. list_any (nat_eq p) pages) (pieces 4096 s)

-- the range is stored, and a page of it is among the pages
abbrev pub is_stored_into : List ℕ → Span → Bool
is_stored_into pages s = s.store && list_any (λ p. list_any (nat_eq p) pages) (pieces 4096 s)

abbrev pub is_refused_service : Demand → Instr → Bool
is_refused_service ServiceZero i = not (nat_eq (modulo 8 i.imm) 0)
is_refused_service _ i = false

-- the code of the exception, by the general registers, the condition code, the nesting depth, and the lists
-- of
-- accessible and of text pages by the instruction's own addresses
unfoldable pub inaccessible_in : Entry → Instr → List ℕ → ℕ → ℕ → List ℕ → List ℕ → Option ℕ
inaccessible_in e i general code depth accessible text =
    let tested = tested_spans e.demand (spans_in e.operands i general code) i general depth in
    where_wrong (not (list_all (is_inside accessible) tested)) addressing
    (where_wrong (list_any (is_stored_into text) tested) protection
    (where_wrong (is_refused_service e.demand i) operation None))

abbrev pub inaccessible : Instr → List ℕ → ℕ → ℕ → List ℕ → List ℕ → Option ℕ
inaccessible i general code depth accessible text =
    inaccessible_in (entry_at i.op.number) i general code depth accessible text
