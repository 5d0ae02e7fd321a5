-- Cards that are alike in the columns that their type names.
use Rattle.std.specs.Prelude.{◌≡◌, ◌⊎◌, ℕ, List, [], ◌∷◌, length, Some}
use Rattle.z_deck.specs.Columns.{at, type_of, mark_field, type_field, address_field, count_field}
use Rattle.z_deck.specs.Reading.{bytes_of}
use Rattle.z_deck.specs.declared.card.CardType.TheVariants.{Text, End}

-- both are as long and have the same mark and type; a text the same address, count and counted bytes, and the end
-- the same entry
pub record AreAlike (card other : List ℕ) : Type 0 where
  pub size : length other ≡ length card
  pub mark : at mark_field other ≡ at mark_field card
  pub type : at type_field other ≡ at type_field card
  pub address : (type_of card ≡ Some Text) ⊎ (type_of card ≡ Some End)
      → at address_field other ≡ at address_field card
  pub count : type_of card ≡ Some Text → at count_field other ≡ at count_field card
  pub bytes : type_of card ≡ Some Text → bytes_of other ≡ bytes_of card

-- as many cards, each alike
abbrev pub AllAlike : List (List ℕ) → List (List ℕ) → Type 0
AllAlike [] [] = Unit {0}
AllAlike (card ∷ cards) (other ∷ others) = AreAlike card other × AllAlike cards others
AllAlike _ _ = ⊥
