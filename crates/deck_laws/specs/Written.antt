-- Decks of the shape in which decks are written.
use Rattle.std.specs.Prelude.{◌≡◌, ℕ, suc, ◌-◌, ◌≤◌, false, List, [], ◌∷◌, Some, min}
use Rattle.z_deck.specs.Columns.{number_at, type_of, address_field}
use Rattle.z_deck.specs.Reading.{bytes_of, count_of}
use Rattle.tx_journal.specs.Content.{Content}
use Rattle.z_deck.specs.Writing.{is_zero, piece_address, piece_count, section_card, text_cards}
use Rattle.z_deck.specs.declared.card.CardType.TheVariants.{Section, Text}

-- how many bytes a piece has: 56, or what is left of storage
abbrev pub piece_size : ℕ → ℕ
piece_size i = min 56 (1048576 - piece_address i)

-- the text of a piece: it names the piece's address and all of its bytes, and these are not all zero
pub record IsPiece (i : ℕ) (card : List ℕ) : Type 0 where
  pub type : type_of card ≡ Some Text
  pub address : number_at address_field card ≡ piece_address i
  pub count : count_of card ≡ piece_size i
  pub some : is_zero (bytes_of card) ≡ false

-- texts of pieces in rising order, none of them before this one
abbrev pub ArePieces : ℕ → List (List ℕ) → Type 0
ArePieces from [] = Unit {0}
ArePieces from (card ∷ cards) = (i : ℕ) × (from ≤ i) × IsPiece i card × ArePieces (suc i) cards

-- a section, and texts of pieces in rising order behind it
pub record HasWrittenShape (cards : List (List ℕ)) : Type 0 where
  pub section : List ℕ
  pub texts : List (List ℕ)
  pub are : cards ≡ section ∷ texts
  pub type : type_of section ≡ Some Section
  pub pieces : ArePieces 0 texts

-- the cards of an image's deck before the end
abbrev pub written_cards : Content → List (List ℕ)
written_cards image = section_card ∷ text_cards piece_count image.storage
