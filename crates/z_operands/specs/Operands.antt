-- The operands of a line: what its tokens and the values of its expressions say.
use Rattle.std.specs.Prelude.{ℕ, zero, suc, ℤ, pos, negsuc, ◌-◌, ◌/◌, ◌%◌, ◌^◌, ◌-ℤ◌, Bool, true, false, not}
use Rattle.std.specs.Prelude.{◌&&◌, List, [], ◌∷◌, take, drop, Option, Some, None, is_none}
use Rattle.std.specs.Prelude.{option_and_then, Result, Ok, Err, ◌==◌, nat_lt, if◌then◌else◌}
use Rattle.std.specs.List.{list_any}
use Rattle.z_text.specs.Expressions.{expression_size}
use Rattle.z_text.specs.declared.token.Token.{Token}
use Rattle.z_text.specs.declared.token.TokenKind.{TokenKind}
use Rattle.z_text.specs.declared.token.TokenKind.TheVariants as tokens
use Rattle.z_instr.specs.declared.form.Slot.{Slot}
use Rattle.z_instr.specs.declared.form.Slot.TheVariants.{First, Second, Third, Mask, Immediate, Compared, Target, Indexed, Based, Counted, SecondBased}
use Rattle.z_instr.specs.declared.instr.Fields.{Fields}
use Rattle.z_instr.specs.Forms.{slots}
use Rattle.z_instr.specs.Made.{no_fields}
use Rattle.z_instr.specs.Ranges.{are_within, limits_of, is_within, bounds, long}
use Rattle.z_instr.specs.Table.{Entry}
use Rattle.z_operands.specs.declared.operand.Atom.{Atom}
use Rattle.z_operands.specs.declared.operand.Atom.TheVariants.{Value, Open, Close, Comma, Other}
use Rattle.z_operands.specs.declared.operand.Operand.{Operand}
use Rattle.z_operands.specs.declared.operand.Operand.TheVariants.{Plain, Short, Full}
use Rattle.z_operands.specs.declared.operand.Piece.{Piece}
use Rattle.z_fields.specs.declared.fault.Kind.{Kind}
use Rattle.z_fields.specs.declared.fault.Kind.TheVariants.{WrongOperands, OutOfRange, UnknownLabel}

-- ---- parts

-- What the tokens of an expression are worth, if they have a value.
abbrev pub Valuation : Type 0
Valuation = List Token → Option ℤ

abbrev pub mark_of : TokenKind → Atom
mark_of tokens.Open = Open
mark_of tokens.Close = Close
mark_of tokens.Comma = Comma
mark_of _ = Other

-- the part at the front: the longest expression, or else one token
abbrev pub atom_for : Valuation → ℕ → List Token → Atom
atom_for value size [] = Other
atom_for value size (t ∷ ts) = if size == 0 then mark_of t.kind else Value (value (take size (t ∷ ts)))

abbrev pub atom_at : Valuation → List Token → Atom
atom_at value ts = atom_for value (expression_size ts) ts

abbrev pub size_for : ℕ → ℕ
size_for size = if size == 0 then 1 else size

abbrev pub atom_size : List Token → ℕ
atom_size ts = size_for (expression_size ts)

-- The parts of tokens, of which the first `skip` belong to the part before.
unfoldable pub atoms_from : Valuation → ℕ → List Token → List Atom
atoms_from value skip [] = []
atoms_from value (suc k) (t ∷ ts) = atoms_from value k ts
atoms_from value zero (t ∷ ts) = atom_at value (t ∷ ts) ∷ atoms_from value (atom_size (t ∷ ts) - 1) ts

-- ---- operands

-- An operand is an expression, with one or two more in parentheses behind it.
abbrev pub piece : Operand → ℕ → Option Piece
piece operand size = Some (record { operand = operand; size = size })

-- what stands in parentheses at the front, with the parenthesis and behind it
abbrev pub piece_with : Option ℤ → List Atom → Option Piece
piece_with d (Open ∷ Value x ∷ Close ∷ rest) = piece (Short d x) 4
piece_with d (Open ∷ Value x ∷ Comma ∷ Value b ∷ Close ∷ rest) = piece (Full d x b) 6
piece_with d _ = piece (Plain d) 1

abbrev pub piece_at : List Atom → Option Piece
piece_at (Value d ∷ rest) = piece_with d rest
piece_at _ = None

-- the operands end, or a comma and one more part follow
abbrev pub goes_on_rightly : List Atom → Bool
goes_on_rightly [] = true
goes_on_rightly (Comma ∷ a ∷ rest) = true
goes_on_rightly _ = false

-- the operand, where what follows it is right
abbrev pub checked : Option Piece → List Atom → Option Operand
checked None atoms = None
checked (Some p) atoms = if goes_on_rightly (drop p.size atoms) then Some p.operand else None

abbrev pub operand_here : List Atom → Option Operand
operand_here atoms = checked (piece_at atoms) atoms

abbrev pub size_of_piece : Option Piece → ℕ
size_of_piece None = 0
size_of_piece (Some p) = p.size

abbrev pub size_here : List Atom → ℕ
size_here atoms = size_of_piece (piece_at atoms)

abbrev pub with_operand : Option Operand → Option (List Operand) → Option (List Operand)
with_operand (Some o) (Some os) = Some (o ∷ os)
with_operand _ _ = None

-- Operands with commas between them, if the parts are that. The first `skip` parts belong to the operand
-- before and the comma behind it.
unfoldable pub operands_from : ℕ → List Atom → Option (List Operand)
operands_from skip [] = Some []
operands_from (suc k) (a ∷ rest) = operands_from k rest
operands_from zero (a ∷ rest) = with_operand (operand_here (a ∷ rest))
    (operands_from (size_here (a ∷ rest)) rest)

-- the operands that tokens are
unfoldable pub operands_of : Valuation → List Token → Option (List Operand)
operands_of value ts = operands_from 0 (atoms_from value 0 ts)

-- ---- the values of an operand

abbrev pub is_plain : Operand → Bool
is_plain (Plain _) = true
is_plain _ = false

abbrev pub is_full : Operand → Bool
is_full (Full _ _ _) = true
is_full _ = false

-- an expression of the operand has no value
abbrev pub lacks_value : Operand → Bool
lacks_value (Plain d) = is_none d
lacks_value (Short d x) = if is_none d then true else is_none x
lacks_value (Full d x b) = if is_none d then true else (if is_none x then true else is_none b)

abbrev pub known : Option ℤ → ℤ
known None = pos 0
known (Some v) = v

-- the value before the parentheses, and the first and the second in them, 0 where they are left out
abbrev pub outer : Operand → ℤ
outer (Plain d) = known d
outer (Short d _) = known d
outer (Full d _ _) = known d

abbrev pub inner : Operand → ℤ
inner (Plain _) = pos 0
inner (Short _ x) = known x
inner (Full _ x _) = known x

abbrev pub innermost : Operand → ℤ
innermost (Full _ _ b) = known b
innermost _ = pos 0

-- ---- the operands of an instruction

-- the spellings that an operand may have
abbrev pub takes : Slot → Operand → Bool
takes Indexed o = true
takes Based o = not (is_full o)
takes SecondBased o = not (is_full o)
takes Counted o = is_full o
takes _ o = is_plain o

abbrev pub has_form : List Slot → List Operand → Bool
has_form [] [] = true
has_form (s ∷ ss) (o ∷ os) = takes s o && has_form ss os
has_form _ _ = false

-- ---- the fields that operands give

infixl 10 ◌>>=◌
abbrev pub ◌>>=◌ : {A B : Type 0} → Option A → (A → Option B) → Option B
o >>= f = option_and_then f o

-- registers and masks are from 0 to 15
abbrev pub register : ℤ → Option ℕ
register (pos n) = if nat_lt n 16 then Some n else None
register (negsuc n) = None

-- no displacement has more than 20 bits and a sign, no immediate more than 32 bits
abbrev pub displacement : ℤ → Option ℤ
displacement v = if is_within long v then Some v else None

abbrev pub immediate : ℤ → Option ℤ
immediate v = if is_within (bounds (2 ^ 31) (2 ^ 32)) v then Some v else None

-- a length from 1 to 256 has a code that is one less
abbrev pub length_code : ℤ → Option ℤ
length_code (pos (suc n)) = if nat_lt n 256 then Some (pos n) else None
length_code _ = None

-- half of an even number
abbrev pub half : ℤ → Option ℤ
half (pos n) = if n % 2 == 0 then Some (pos (n / 2)) else None
half (negsuc n) = if n % 2 == 1 then Some (negsuc (n / 2)) else None

-- the halfwords from the instruction's address to a target, which is nowhere near 2 ^ 33
abbrev pub jump : ℕ → ℤ → Option ℤ
jump here v = if is_within (bounds (2 ^ 33) (2 ^ 33)) v then (half (v -ℤ pos here) >>= immediate) else None

-- the fields with those of one more operand, where its values are in range
abbrev pub with_slot : ℕ → Slot → Operand → Fields → Option Fields
with_slot here First o f = register (outer o) >>= λ r. Some (record f { r1 = r })
with_slot here Second o f = register (outer o) >>= λ r. Some (record f { r2 = r })
with_slot here Third o f = register (outer o) >>= λ r. Some (record f { r3 = r })
with_slot here Mask o f = register (outer o) >>= λ m. Some (record f { mask = m })
with_slot here Immediate o f = immediate (outer o) >>= λ i. Some (record f { imm = i })
with_slot here Compared o f = displacement (outer o) >>= λ i. Some (record f { d2 = i })
with_slot here Target o f = jump here (outer o) >>= λ i. Some (record f { imm = i })
with_slot here Indexed o f =
    displacement (outer o) >>= λ d. (register (inner o) >>= λ x.
    (register (innermost o) >>= λ b. Some (record f { d = d; x = x; b = b })))
with_slot here Based o f = displacement (outer o) >>= λ d.
    (register (inner o) >>= λ b. Some (record f { d = d; b = b }))
with_slot here Counted o f =
    displacement (outer o) >>= λ d. (length_code (inner o) >>= λ i.
    (register (innermost o) >>= λ b. Some (record f { d = d; imm = i; b = b })))
with_slot here SecondBased o f = displacement (outer o) >>= λ d.
    (register (inner o) >>= λ b. Some (record f { d2 = d; b2 = b }))

unfoldable pub fields_from : ℕ → List Slot → List Operand → Fields → Option Fields
fields_from here (s ∷ ss) (o ∷ os) f = with_slot here s o f >>= fields_from here ss os
fields_from here _ _ f = Some f

-- the row allows each of the fields
abbrev pub are_allowed : Entry → Fields → Bool
are_allowed e f = are_within (limits_of e) f.r1 f.r2 f.r3 f.x f.b f.d f.b2 f.d2 f.imm f.mask

abbrev pub allowed : Entry → Option Fields → Result Fields Kind
allowed e None = Err OutOfRange
allowed e (Some f) = if are_allowed e f then Ok f else Err OutOfRange

-- The mask of an extended mnemonic stands for the first operand.
abbrev pub slots_for : Entry → Option ℕ → List Slot
slots_for e None = slots e.form
slots_for e (Some mask) = drop 1 (slots e.form)

abbrev pub fields_for : Option ℕ → Fields
fields_for None = no_fields
fields_for (Some mask) = record no_fields { mask = mask }

-- The fields of an instruction by its operands, or what is wrong with these: their form, a label, a range.
-- The mask is that of an extended mnemonic.
unfoldable pub instruction_in : Entry → Option ℕ → ℕ → List Operand → Result Fields Kind
instruction_in e mask here os =
    if not (has_form (slots_for e mask) os) then Err WrongOperands
    else (if list_any lacks_value os then Err UnknownLabel
    else allowed e (fields_from here (slots_for e mask) os (fields_for mask)))
