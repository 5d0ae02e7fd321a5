-- The texts of a deck, and the places that they name.
use Rattle.std.specs.Prelude.{◌≡◌, ℕ, ◌<◌, true, List, [], ◌∷◌, filter, slice_index}
use Rattle.z_deck.specs.Columns.{number_at, type_of, address_field}
use Rattle.z_deck.specs.Reading.{address_of, bytes_of, count_of, covers, is_text}

-- each is a byte
abbrev pub AreBytes : List ℕ → Type 0
AreBytes bytes = (place : ℕ) → slice_index bytes place < 256

-- the cards of texts, in their order
abbrev pub texts_in : List (List ℕ) → List (List ℕ)
texts_in cards = filter (λ card. is_text (type_of card)) cards

-- both texts name the same address and the same number of bytes
pub record NamesSamePlace (card other : List ℕ) : Type 0 where
  pub address : number_at address_field other ≡ number_at address_field card
  pub count : count_of other ≡ count_of card

-- as many texts, one by one of the same place
abbrev pub NameSamePlaces : List (List ℕ) → List (List ℕ) → Type 0
NameSamePlaces [] [] = Unit {0}
NameSamePlaces (card ∷ cards) (other ∷ others) = NamesSamePlace card other × NameSamePlaces cards others
NameSamePlaces _ _ = ⊥

-- no address has a byte on both
abbrev pub AreApart : ℕ → List ℕ → List ℕ → Type 0
AreApart origin card other = (address : ℕ) → covers (address_of origin card) (bytes_of card) address ≡ true
    → covers (address_of origin other) (bytes_of other) address ≡ true → ⊥
