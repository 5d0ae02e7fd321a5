-- The deck of an image, card by card.
use Rattle.std.specs.Prelude.{ℕ, zero, suc, ◌+◌, ◌*◌, List, [], ◌∷◌, ◌++◌, length, take, drop, codes}
use Rattle.std.specs.Prelude.{Bool, ◌==◌, if◌then◌else◌}
use Rattle.std.specs.List.{concat, list_all}
use Rattle.byteorder.specs.Endian.{big_bytes}
use Rattle.z_regs.specs.Cpu.{Cpu}
use Rattle.tx_journal.specs.Content.{Content}
use Rattle.z_deck.specs.Ebcdic.{in_ebcdic, blank}
use Rattle.z_deck.specs.Columns.{Columns, put, blank_card, mark, name_of, mark_field, type_field, address_field}
use Rattle.z_deck.specs.Columns.{count_field, section_field, text_field, name_field, section_type_field}
use Rattle.z_deck.specs.Columns.{section_address_field, section_length_field}
use Rattle.z_deck.specs.declared.card.CardType.TheVariants.{Section, Text, End}

-- ---- cards

-- bytes in columns
pub record Field : Type 0 where
  pub columns : Columns
  pub bytes : List ℕ

abbrev pub field : Columns → List ℕ → Field
field columns bytes = record { columns = columns; bytes = bytes }

-- a card of blanks with these fields put on it
abbrev pub card_with : List Field → List ℕ
card_with [] = blank_card
card_with (f ∷ fs) = put f.columns f.bytes (card_with fs)

-- the number of the one section
abbrev pub section : Field
section = field section_field (big_bytes 2 1)

-- the section: all of storage, with the name ZTX
unfoldable pub section_card : List ℕ
section_card = card_with
    (field mark_field mark
    ∷ field type_field (name_of Section)
    ∷ field count_field (big_bytes 2 16)
    ∷ section
    ∷ field name_field (in_ebcdic (codes "ZTX     "))
    ∷ field section_type_field (0 ∷ [])
    ∷ field section_address_field (big_bytes 3 0)
    ∷ field section_length_field (big_bytes 3 0x100000)
    ∷ [])

-- bytes of storage from an address on
unfoldable pub text_card : ℕ → List ℕ → List ℕ
text_card address bytes = card_with
    (field mark_field mark
    ∷ field type_field (name_of Text)
    ∷ field address_field (big_bytes 3 address)
    ∷ field count_field (big_bytes 2 (length bytes))
    ∷ section
    ∷ field text_field bytes
    ∷ [])

-- its columns up to 16, which say from where on how many bytes stand behind them
unfoldable pub text_head : ℕ → ℕ → List ℕ
text_head address count = take 16 (card_with
    (field mark_field mark
    ∷ field type_field (name_of Text)
    ∷ field address_field (big_bytes 3 address)
    ∷ field count_field (big_bytes 2 count)
    ∷ section
    ∷ []))

-- the end, with an entry
unfoldable pub end_card : ℕ → List ℕ
end_card entry = card_with
    (field mark_field mark
    ∷ field type_field (name_of End)
    ∷ field address_field (big_bytes 3 entry)
    ∷ section
    ∷ [])

-- ---- pieces of storage

abbrev pub is_zero : List ℕ → Bool
is_zero bytes = list_all (λ b. b == 0) bytes

-- where a piece of 56 bytes begins, the first at 8,192
abbrev pub piece_address : ℕ → ℕ
piece_address i = 8192 + 56 * i

-- its bytes: the last piece has those that are left, 16
abbrev pub piece_at : List ℕ → ℕ → List ℕ
piece_at storage i = take 56 (drop (piece_address i) storage)

-- the card of a piece that is not all zero
unfoldable pub cards_of_piece : List ℕ → ℕ → List (List ℕ)
cards_of_piece storage i =
    if is_zero (piece_at storage i) then [] else text_card (piece_address i) (piece_at storage i) ∷ []

-- the cards of the first so many pieces
unfoldable pub text_cards : ℕ → List ℕ → List (List ℕ)
text_cards zero storage = []
text_cards (suc i) storage = text_cards i storage ++ cards_of_piece storage i

-- all pieces up to the end of storage
abbrev pub piece_count : ℕ
piece_count = 18579

-- the deck of storage that is entered there
abbrev pub deck_of : List ℕ → ℕ → List ℕ
deck_of storage entry = section_card ++ (concat (text_cards piece_count storage) ++ end_card entry)

-- where CPU 0 enters
abbrev pub first_entry : List Cpu → ℕ
first_entry [] = 0
first_entry (c ∷ cs) = c.address

abbrev pub deck_of_image : Content → List ℕ
deck_of_image image = deck_of image.storage (first_entry image.cpus)
