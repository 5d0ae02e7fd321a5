-- The transaction diagnostic block, 256 bytes, as a table of its fields.
use Rattle.std.specs.Prelude.{ℕ, ◌+◌, ◌-◌, ◌*◌, Bool, ◌&&◌, cond, nat_lt, nat_le, is_some, length, List, [], ◌∷◌, map, get_or, Option, Some, None, unwrap_or}
use Rattle.std.specs.List.{range_with_len}
use Rattle.byteorder.specs.Endian.{big_bytes}
use Rattle.tx_control.specs.Nesting.{is_constrained}
use Rattle.tx_control.specs.declared.begins.Begin.{Begin}
use Rattle.tx_control.specs.declared.exceptions.Exception.{Exception}
use Rattle.tx_control.specs.declared.causes.Why.{Why}
use Rattle.tx_abort.specs.Causes.{cause_of}

-- a field: the position of its first byte, how many bytes it has, and the number that stands there, its
-- leftmost
-- byte first
pub record Field : Type 0 where
  pub first : ℕ
  pub length : ℕ
  pub value : ℕ

abbrev pub field : ℕ → ℕ → ℕ → Field
field first length value = record { first = first; length = length; value = value }

-- bit 0, the leftmost, says that the conflict token is valid, bit 1 that the outermost begin is constrained
abbrev pub flags : Bool → Bool → ℕ
flags is_conflict is_constrained = cond is_conflict 0x80 0 + cond is_constrained 0x40 0

abbrev pub length_in : Option Exception → ℕ
length_in None = 0
length_in (Some e) = e.length

abbrev pub code_in : Option Exception → ℕ
code_in None = 0
code_in (Some e) = e.code

-- general registers 0 to 15
abbrev pub register_field : List ℕ → ℕ → Field
register_field general r = field (128 + 8 * r) 8 (get_or general r 0)

unfoldable pub register_fields : List ℕ → List Field
register_fields general = map (register_field general) (range_with_len 0 16)

-- the format; the flags; the nesting depth; the abort code; the conflict token, the line's first address; the
-- address of the
-- aborted program; the length of the instruction and the code of its exception; the registers as they are
-- before any is
-- brought back
unfoldable pub fields : Why → List Begin → List ℕ → ℕ → List Field
fields why nest general at =
    field 0 1 1
    ∷ field 1 1 (flags (is_some (cause_of why).conflict) (is_constrained nest))
    ∷ field 6 2 (length nest)
    ∷ field 8 8 (cause_of why).code
    ∷ field 16 8 (unwrap_or (cause_of why).conflict 0)
    ∷ field 24 8 at
    ∷ field 37 1 (length_in (cause_of why).exception)
    ∷ field 38 2 (code_in (cause_of why).exception)
    ∷ register_fields general

-- whether the byte at a position is one of the field's
abbrev pub has : Field → ℕ → Bool
has f position = nat_le f.first position && nat_lt position (f.first + f.length)

-- the field's byte at a position
abbrev pub byte_in : Field → ℕ → ℕ
byte_in f position = get_or (big_bytes f.length f.value) (position - f.first) 0

-- the byte at a position, zero where no field stands
abbrev pub byte_at : List Field → ℕ → ℕ
byte_at [] position = 0
byte_at (f ∷ fs) position = cond (has f position) (byte_in f position) (byte_at fs position)

-- the whole block: by the cause, the open begins, the general registers, and the address that is told
unfoldable pub block : Why → List Begin → List ℕ → ℕ → List ℕ
block why nest general at = map (byte_at (fields why nest general at)) (range_with_len 0 256)
