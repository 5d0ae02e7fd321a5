-- What is due for the command that writes and reads decks.
use Rattle.std.specs.Prelude.{◌≡◌, ℕ, ◌⊎◌, List, Option}
use Rattle.tx_journal.specs.Content.{Content}
use Rattle.z_assemble.specs.Whole.{Stands}
use Rattle.z_deck.specs.Listing.{listing_of}
use Rattle.z_deck.specs.Reading.{IsDeck, FirstFault}
use Rattle.z_deck.specs.Words.{fault_line, number_of}
use Rattle.z_deck.specs.Writing.{deck_of_image}
use Rattle.z_deck.specs.declared.fault.Kind.{Kind}
use Rattle.listing_answers.specs.Due.{IsRefusal}

-- 0, and the deck of the listing's image
pub record IsWrittenDeck (input : List ℕ) (status : ℕ) (text : List ℕ) : Type 0 where
  pub image : Content
  pub stands : Stands input image
  pub status_is : status ≡ 0
  pub text_is : text ≡ deck_of_image image

-- the input is no deck: 5, and the line of its first fault
pub record IsDeckRefusal (origin : ℕ) (input : List ℕ) (status : ℕ) (text : List ℕ) : Type 0 where
  pub number : ℕ
  pub kind : Kind
  pub first : FirstFault input origin number kind
  pub status_is : status ≡ 5
  pub text_is : text ≡ fault_line number (number_of kind)

-- 0, and the listing of the deck
pub record IsDeckListing (origin : ℕ) (input : List ℕ) (status : ℕ) (text : List ℕ) : Type 0 where
  pub storage : List ℕ
  pub entry : Option ℕ
  pub deck : IsDeck input origin storage entry
  pub status_is : status ≡ 0
  pub text_is : text ≡ listing_of storage entry

-- ---- due to an input

abbrev pub IsDueToDeck : List ℕ → ℕ → List ℕ → Type 0
IsDueToDeck input status text = IsRefusal input status text ⊎ IsWrittenDeck input status text

abbrev pub IsDueToReadDeck : ℕ → List ℕ → ℕ → List ℕ → Type 0
IsDueToReadDeck origin input status text =
    IsDeckRefusal origin input status text ⊎ IsDeckListing origin input status text

-- the line of the fault of bytes that are too many for a deck
abbrev pub long_deck_line : List ℕ
long_deck_line = fault_line 209716 1
