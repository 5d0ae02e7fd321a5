-- Formats as data: which hexadecimal digits of which field stand where.
use Rattle.std.specs.Prelude.{ℕ, zero, suc, ◌+◌, ◌*◌, ◌/◌, ◌%◌, ◌^◌, List, [], ◌∷◌, map, get_or, length}
use Rattle.std.specs.Prelude.{Bool, true, false, ◌&&◌, ◌||◌, not, nat_eq, nat_lt, if◌then◌else◌}
use Rattle.std.specs.List.{list_all}
use Rattle.z_instr.specs.declared.form.Form.{Form}
use Rattle.z_instr.specs.declared.form.Form.TheVariants.{RR, RRMask, RRSingle, I, RXa, RXb, RRE, RRESingle, RRFa, RRFc, RXYa, RIa, RIaSigned, RIb, RIc, RILa, RILaSigned, RILb, RILc, RSa, RSaSingle, RSYa, RSYb, SI, SIY, SIL, SILSigned, S, SAlone, SSa, RIEb, RIEc}
use Rattle.z_instr.specs.declared.layout.Field.{Field}
use Rattle.z_instr.specs.declared.layout.Field.TheVariants.{Opcode, R1, R2, R3, X, B, D, B2, D2, Imm, Mask, Spare}
use Rattle.z_instr.specs.declared.layout.Digit.{Digit}
use Rattle.z_instr.specs.Forms.{is_signed}
use Rattle.z_instr.specs.Table.{Entry}

-- ---- the formats

-- so many digits of a field, down to one of an index; and then what follows
abbrev pub part : Field → ℕ → ℕ → List Digit → List Digit
part field low zero rest = rest
part field low (suc n) rest = record { field = field; index = low + n } ∷ part field low n rest

-- a whole field of so many digits, and what follows
abbrev pub whole : Field → ℕ → List Digit → List Digit
whole field n rest = part field 0 n rest

-- a base and a displacement of 12 bits; and one of 20, whose high eight stand behind the low twelve
abbrev pub short_address : List Digit → List Digit
short_address rest = whole B 1 (whole D 3 rest)

abbrev pub long_address : List Digit → List Digit
long_address rest = whole B 1 (whole D 3 (part D 3 2 rest))

-- an opcode of 12 bits, whose last four stand behind a register or a mask; and one of 16 bits at both ends
abbrev pub split : Field → List Digit → List Digit
split field rest = part Opcode 1 2 (whole field 1 (whole Opcode 1 rest))

abbrev pub ends : List Digit → List Digit
ends inside = part Opcode 2 2 inside

abbrev pub last : List Digit
last = whole Opcode 2 []

-- the digits of a form from left to right
abbrev pub layout : Form → List Digit
layout RR = whole Opcode 2 (whole R1 1 (whole R2 1 []))
layout RRMask = whole Opcode 2 (whole Mask 1 (whole R2 1 []))
layout RRSingle = whole Opcode 2 (whole R1 1 (whole Spare 1 []))
layout I = whole Opcode 2 (whole Imm 2 [])
layout RXa = whole Opcode 2 (whole R1 1 (whole X 1 (short_address [])))
layout RXb = whole Opcode 2 (whole Mask 1 (whole X 1 (short_address [])))
layout RRE = whole Opcode 4 (whole Spare 2 (whole R1 1 (whole R2 1 [])))
layout RRESingle = whole Opcode 4 (part Spare 1 2 (whole R1 1 (whole Spare 1 [])))
layout RRFa = whole Opcode 4 (whole R3 1 (whole Spare 1 (whole R1 1 (whole R2 1 []))))
layout RRFc = whole Opcode 4 (whole Mask 1 (whole Spare 1 (whole R1 1 (whole R2 1 []))))
layout RXYa = ends (whole R1 1 (whole X 1 (long_address last)))
layout RIa = split R1 (whole Imm 4 [])
layout RIaSigned = split R1 (whole Imm 4 [])
layout RIb = split R1 (whole Imm 4 [])
layout RIc = split Mask (whole Imm 4 [])
layout RILa = split R1 (whole Imm 8 [])
layout RILaSigned = split R1 (whole Imm 8 [])
layout RILb = split R1 (whole Imm 8 [])
layout RILc = split Mask (whole Imm 8 [])
layout RSa = whole Opcode 2 (whole R1 1 (whole R3 1 (short_address [])))
layout RSaSingle = whole Opcode 2 (whole R1 1 (whole Spare 1 (short_address [])))
layout RSYa = ends (whole R1 1 (whole R3 1 (long_address last)))
layout RSYb = ends (whole R1 1 (whole Mask 1 (long_address last)))
layout SI = whole Opcode 2 (whole Imm 2 (short_address []))
layout SIY = ends (whole Imm 2 (long_address last))
layout SIL = whole Opcode 4 (short_address (whole Imm 4 []))
layout SILSigned = whole Opcode 4 (short_address (whole Imm 4 []))
layout S = whole Opcode 4 (short_address [])
layout SAlone = whole Opcode 4 (whole Spare 4 [])
layout SSa = whole Opcode 2 (whole Imm 2 (short_address (whole B2 1 (whole D2 3 []))))
layout RIEb = ends (whole R1 1 (whole R2 1 (whole Imm 4 (whole Mask 1 (whole Spare 1 last)))))
layout RIEc = ends (whole R1 1 (whole Mask 1 (whole Imm 4 (whole D2 2 last))))

abbrev pub layout_of : Entry → List Digit
layout_of e = layout e.form

-- ---- numbers in a layout, by the ranks of their fields

abbrev pub rank : Field → ℕ
rank Opcode = 0
rank R1 = 1
rank R2 = 2
rank R3 = 3
rank X = 4
rank B = 5
rank D = 6
rank B2 = 7
rank D2 = 8
rank Imm = 9
rank Mask = 10
rank Spare = 11

-- the digit belongs to the field of a rank
abbrev pub is_of : ℕ → Digit → Bool
is_of r d = nat_eq (rank d.field) r

-- how many digits the field of a rank has
abbrev pub width : List Digit → ℕ → ℕ
width [] r = 0
width (d ∷ ds) r = if is_of r d then suc (width ds r) else width ds r

-- what stands in the place of a digit, by the numbers of the fields
abbrev pub digit : (ℕ → ℕ) → Digit → ℕ
digit v d = v (rank d.field) / 16 ^ d.index % 16

-- two digits make a byte
abbrev pub paired : List ℕ → List ℕ
paired (a ∷ (b ∷ hs)) = (a * 16 + b) ∷ paired hs
paired _ = []

-- the bytes in which numbers stand side by side
abbrev pub spelled : List Digit → (ℕ → ℕ) → List ℕ
spelled ds v = paired (map (digit v) ds)

-- the digits of so many bytes from a place on
abbrev pub digits_from : ℕ → ℕ → List ℕ → List ℕ
digits_from zero k bytes = []
digits_from (suc n) k bytes = get_or bytes k 0 / 16 ∷ (get_or bytes k 0 % 16 ∷ digits_from n (suc k) bytes)

-- the number of the field of a rank, by what stands in the places of the digits
abbrev pub number_in : List Digit → List ℕ → ℕ → ℕ
number_in [] hs r = 0
number_in (d ∷ ds) [] r = 0
number_in (d ∷ ds) (h ∷ hs) r = (if is_of r d then h * 16 ^ d.index else 0) + number_in ds hs r

-- the number of the field of a rank that bytes hold
abbrev pub taken : List Digit → List ℕ → ℕ → ℕ
taken ds bytes r = number_in ds (digits_from (length ds / 2) 0 bytes) r

-- ---- signs

abbrev pub has_signed_immediate : Entry → Bool
has_signed_immediate e = is_signed e.form

-- a displacement of five digits has a sign, and so has a byte in the place of one
abbrev pub has_signed_displacement : ℕ → Bool
has_signed_displacement n = nat_eq n 5 || nat_eq n 2

-- ---- what makes a layout whole

-- the field of a rank has a digit of an index there
abbrev pub has : List Digit → ℕ → ℕ → Bool
has [] r k = false
has (d ∷ ds) r k = if is_of r d && nat_eq d.index k then true else has ds r k

-- no digit stands there twice
abbrev pub is_once : List Digit → Bool
is_once [] = true
is_once (d ∷ ds) = not (has ds (rank d.field) d.index) && is_once ds

-- so many digits of the field of a rank are there, the last ones
abbrev pub has_last : ℕ → List Digit → ℕ → Bool
has_last zero ds r = true
has_last (suc n) ds r = has ds r n && has_last n ds r

-- a digit's index is less than its field's digits are many
abbrev pub is_low : List Digit → Digit → Bool
is_low ds d = nat_lt d.index (width ds (rank d.field))

-- each field stands there whole and once, an opcode is there, and there are 2, 4 or 6 bytes
abbrev pub is_whole : List Digit → Bool
is_whole ds =
    is_once ds && (list_all (is_low ds) ds &&
    (list_all (λ r. has_last (width ds r) ds r) (0 ∷ 1 ∷ 2 ∷ 3 ∷ 4 ∷ 5 ∷ 6 ∷ 7 ∷ 8 ∷ 9 ∷ 10 ∷ 11 ∷ []) &&
    (nat_lt 0 (width ds 0) && (nat_eq (length ds) 4 || (nat_eq (length ds) 8 || nat_eq (length ds) 12)))))
