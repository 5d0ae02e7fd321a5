-- What is taken from one card.
use Rattle.std.specs.Prelude.{◌≡◌, ℕ, ◌<◌, ◌⊎◌, List, Option, Some, None, Result, Ok, Err}
use Rattle.z_deck.specs.Columns.{type_of}
use Rattle.z_deck.specs.Reading.{IsText, IsEnd, FirstFault, count_of, address_of, bytes_of, entry_of}
use Rattle.z_deck.specs.declared.card.Card.{Card}
use Rattle.z_deck.specs.declared.card.Card.TheVariants as cards
use Rattle.z_deck.specs.declared.card.CardType.TheVariants.{Section}
use Rattle.z_deck.specs.declared.fault.DeckFault.{DeckFault}
use Rattle.z_deck.specs.declared.fault.DeckFault.TheVariants as ends
use Rattle.z_deck.specs.declared.fault.Kind.{Kind}
use Rattle.z_deck.specs.Words.{number_of}

-- the card says this
abbrev pub Says : ℕ → List ℕ → Card → Type 0
Says origin card cards.Nothing =
    (type_of card ≡ Some Section) ⊎ (IsText origin card × (count_of card ≡ 0))
Says origin card (cards.Text first bytes) =
    IsText origin card × (0 < count_of card) × (first ≡ address_of origin card) × (bytes.now ≡ bytes_of card)
Says origin card (cards.End entry) = IsEnd origin card × (entry ≡ entry_of origin card)

-- what the card says, where it has no fault, and else its fault
abbrev pub IsReading : ℕ → List ℕ → Option Kind → Result Card Kind → Type 0
IsReading origin card fault (Ok said) = (fault ≡ None) × Says origin card said
IsReading origin card fault (Err kind) = fault ≡ Some kind

-- the first fault of the bytes, unless memory ran out
abbrev pub IsFault : List ℕ → ℕ → DeckFault → Type 0
IsFault bytes origin ends.Memory = Unit {0}
IsFault bytes origin (ends.Card number kind) =
    (k : Kind) × FirstFault bytes origin number k × (kind ≡ number_of k)
