-- The columns of a card, and what stands in them.
use Rattle.std.specs.Prelude.{ℕ, ◌+◌, ◌-◌, ◌/◌, ◌%◌, ◌^◌, List, [], ◌∷◌, ◌++◌, length, take, drop, replicate}
use Rattle.std.specs.Prelude.{Option, Some, None, codes, if◌then◌else◌}
use Rattle.std.specs.Str.{bytes_eq}
use Rattle.byteorder.specs.Endian.{big_number}
use Rattle.z_deck.specs.Ebcdic.{in_ebcdic, blank}
use Rattle.z_deck.specs.declared.card.CardType.{CardType}
use Rattle.z_deck.specs.declared.card.CardType.TheVariants.{Section, Text, End, Relocation, Symbol}

-- columns of a card, counted from 1
pub record Columns : Type 0 where
  pub first : ℕ
  pub last : ℕ

abbrev pub columns : ℕ → ℕ → Columns
columns first last = record { first = first; last = last }

-- a card has 80 columns, with a byte in each
abbrev pub card_size : ℕ
card_size = 80

-- ---- the fields

-- hex 02, and the type of the card
abbrev pub mark_field : Columns
mark_field = columns 1 1

abbrev pub type_field : Columns
type_field = columns 2 4

-- the address of the first byte of a text, or the entry
abbrev pub address_field : Columns
address_field = columns 6 8

-- the number of bytes behind the fields
abbrev pub count_field : Columns
count_field = columns 11 12

-- the number of the section that they belong to
abbrev pub section_field : Columns
section_field = columns 15 16

-- a text's bytes begin here, and there are at most 56
abbrev pub text_field : Columns
text_field = columns 17 72

abbrev pub most_text : ℕ
most_text = 56

-- of the one section: its name, its type, its address and its length
abbrev pub name_field : Columns
name_field = columns 17 24

abbrev pub section_type_field : Columns
section_type_field = columns 25 25

abbrev pub section_address_field : Columns
section_address_field = columns 26 28

abbrev pub section_length_field : Columns
section_length_field = columns 30 32

-- ---- what stands there

-- the bytes in these columns
abbrev pub at : Columns → List ℕ → List ℕ
at f card = take (f.last + 1 - f.first) (drop (f.first - 1) card)

-- the number in them, the highest byte first
abbrev pub number_at : Columns → List ℕ → ℕ
number_at f card = big_number (f.last + 1 - f.first) (at f card)

-- the card with these bytes from the field's first column on
abbrev pub put : Columns → List ℕ → List ℕ → List ℕ
put f bytes card = take (f.first - 1) card ++ (bytes ++ drop (f.first - 1 + length bytes) card)

-- a card of blanks
abbrev pub blank_card : List ℕ
blank_card = replicate card_size blank

-- ---- types

-- the names of the types
abbrev pub name_of : CardType → List ℕ
name_of Section = in_ebcdic (codes "ESD")
name_of Text = in_ebcdic (codes "TXT")
name_of End = in_ebcdic (codes "END")
name_of Relocation = in_ebcdic (codes "RLD")
name_of Symbol = in_ebcdic (codes "SYM")

-- the type of this name
unfoldable pub type_named : List ℕ → Option CardType
type_named name =
    if bytes_eq name (name_of Section) then Some Section
    else (if bytes_eq name (name_of Text) then Some Text
    else (if bytes_eq name (name_of End) then Some End
    else (if bytes_eq name (name_of Relocation) then Some Relocation
    else (if bytes_eq name (name_of Symbol) then Some Symbol else None))))

-- hex 02 stands in column 1 of every card
abbrev pub mark : List ℕ
mark = 2 ∷ []

-- the type of a card: None where it is no card
abbrev pub type_of : List ℕ → Option CardType
type_of card = if bytes_eq (at mark_field card) mark then type_named (at type_field card) else None

-- blanks in place of an entry
abbrev pub no_entry : List ℕ
no_entry = replicate 3 blank
