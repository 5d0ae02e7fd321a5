-- Worked values of the definitions.
use Rattle.std.proofs.Common.{◌≡◌, ℕ, ◌+◌, List, [], ◌∷◌, ◌++◌, length, replicate, take, Some, None, true}
use Rattle.std.proofs.Common.{refl}
use Rattle.std.specs.Prelude.{codes}
use Rattle.z_deck.specs.Ebcdic.{in_ebcdic, blank}
use Rattle.z_deck.specs.Columns.{name_of, type_named, type_of, at, number_at, put, blank_card}
use Rattle.z_deck.specs.Columns.{address_field, count_field, mark_field, type_field}
use Rattle.z_deck.specs.Reading.{byte_on, byte_from, entry_of, fault_of, count_of, address_of, bytes_of}
use Rattle.z_deck.specs.Writing.{section_card, text_card, end_card}
use Rattle.z_deck.specs.Listing.{org_line, data_line}
use Rattle.z_deck.specs.declared.card.CardType.TheVariants.{Section, Text, End, Relocation, Symbol}
use Rattle.z_deck.specs.declared.fault.Kind.TheVariants as kinds

-- ---- names

-- the code points of the names, and of the blank
pub sections : name_of Section ≡ 0xC5 ∷ 0xE2 ∷ 0xC4 ∷ []
sections = refl

pub texts : name_of Text ≡ 0xE3 ∷ 0xE7 ∷ 0xE3 ∷ []
texts = refl

pub ends : name_of End ≡ 0xC5 ∷ 0xD5 ∷ 0xC4 ∷ []
ends = refl

pub relocations : name_of Relocation ≡ 0xD9 ∷ 0xD3 ∷ 0xC4 ∷ []
relocations = refl

pub symbols : name_of Symbol ≡ 0xE2 ∷ 0xE8 ∷ 0xD4 ∷ []
symbols = refl

pub program_name : in_ebcdic (codes "ZTX") ≡ 0xE9 ∷ 0xE3 ∷ 0xE7 ∷ []
program_name = refl

pub blanks : blank ≡ 0x40
blanks = refl

-- ---- cards

-- the whole card of the section
pub section_is : section_card
    ≡ (2 ∷ 0xC5 ∷ 0xE2 ∷ 0xC4 ∷ []) ++ (replicate 6 0x40 ++ ((0 ∷ 16 ∷ 0x40 ∷ 0x40 ∷ 0 ∷ 1 ∷ 0xE9 ∷ 0xE3 ∷ 0xE7
    ∷ []) ++ (replicate 5 0x40 ++ ((0 ∷ 0 ∷ 0 ∷ 0 ∷ 0x40 ∷ 16 ∷ 0 ∷ 0 ∷ []) ++ replicate 48 0x40))))
unfolding section_card
section_is = refl

-- a card of three bytes for hex 3ff0
pub text_is : text_card 0x3ff0 (0xa7 ∷ 0x19 ∷ 5 ∷ [])
    ≡ (2 ∷ 0xE3 ∷ 0xE7 ∷ 0xE3 ∷ 0x40 ∷ 0 ∷ 0x3f ∷ 0xf0 ∷ 0x40 ∷ 0x40 ∷ 0 ∷ 3 ∷ 0x40 ∷ 0x40 ∷ 0 ∷ 1 ∷ 0xa7 ∷ 0x19
    ∷ 5 ∷ []) ++ replicate 61 0x40
unfolding text_card
text_is = refl

-- the end, with hex 4000 as the entry
pub end_is : end_card 0x4000
    ≡ (2 ∷ 0xC5 ∷ 0xD5 ∷ 0xC4 ∷ 0x40 ∷ 0 ∷ 0x40 ∷ 0 ∷ []) ++ (replicate 6 0x40 ++ (0 ∷ 1 ∷ replicate 64 0x40))
unfolding end_card
end_is = refl

-- ---- what they say

abbrev some_text : List ℕ
some_text = text_card 0x3ff0 (0xa7 ∷ 0x19 ∷ 5 ∷ [])

pub type_is : type_of some_text ≡ Some Text
unfolding type_named text_card
type_is = refl

pub bytes_are : bytes_of some_text ≡ 0xa7 ∷ 0x19 ∷ 5 ∷ []
unfolding text_card
bytes_are = refl

pub address_is : address_of 16 some_text ≡ 0x4000
unfolding text_card
address_is = refl

-- the second of its bytes, and none behind the third
pub second_byte : byte_on 0 some_text 0x3ff1 ≡ Some 0x19
unfolding byte_on type_named text_card
second_byte = refl

pub fourth_byte : byte_on 0 some_text 0x3ff3 ≡ None
unfolding byte_on type_named text_card
fourth_byte = refl

-- a later card over an earlier one
pub later_byte : byte_from 0 (some_text ∷ text_card 0x3ff1 (7 ∷ []) ∷ section_card ∷ []) 0x3ff1 ≡ Some 7
unfolding byte_on type_named section_card text_card
later_byte = refl

-- blanks are no entry, and an address is counted from the origin on
pub no_entry_there : entry_of 5 (2 ∷ 0xC5 ∷ 0xD5 ∷ 0xC4 ∷ replicate 76 0x40) ≡ None
no_entry_there = refl

pub entry_there : entry_of 5 (end_card 0x4000) ≡ Some 0x4005
unfolding end_card
entry_there = refl

-- ---- faults, each with what stands beside it

-- a short card behind the end is short
pub short_first : fault_of 0 true (2 ∷ 0xC5 ∷ []) ≡ Some kinds.ShortCard
unfolding fault_of
short_first = refl

-- no card behind the end is a card behind the end
pub behind_first : fault_of 0 true (replicate 80 0) ≡ Some kinds.AfterEnd
unfolding fault_of
behind_first = refl
