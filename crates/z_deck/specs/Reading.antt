-- What a deck says, and the first fault of bytes that are none.
use Rattle.std.specs.Prelude.{◌≡◌, ℕ, ◌+◌, ◌-◌, ◌<◌, ◌≤◌, Bool, true, false, not, ◌&&◌, ◌||◌, ◌⊎◌, List, []}
use Rattle.std.specs.Prelude.{◌∷◌, ◌++◌, length, take, drop, All, slice_index, Option, Some, None, is_none}
use Rattle.std.specs.Prelude.{replicate, unwrap_or, nat_lt, nat_le, ◌==◌, if◌then◌else◌}
use Rattle.std.specs.List.{concat}
use Rattle.std.specs.Str.{bytes_eq}
use Rattle.z_deck.specs.Columns.{at, number_at, type_of, no_entry, card_size, most_text, text_field}
use Rattle.z_deck.specs.Columns.{address_field, count_field}
use Rattle.z_deck.specs.declared.card.CardType.{CardType}
use Rattle.z_deck.specs.declared.card.CardType.TheVariants.{Section, Text, End, Relocation, Symbol}
use Rattle.z_deck.specs.declared.fault.Kind.{Kind}
use Rattle.z_deck.specs.declared.fault.Kind.TheVariants as kinds

-- the most bytes that are read as a deck, and the card that is cut there
abbrev pub most_bytes : ℕ
most_bytes = 16777216

abbrev pub card_cut : ℕ
card_cut = 209716

-- ---- what a card says

-- how many bytes of storage stand on a text's card
abbrev pub count_of : List ℕ → ℕ
count_of card = number_at count_field card

-- the address of the first one, where the deck is loaded so far behind its own addresses
abbrev pub address_of : ℕ → List ℕ → ℕ
address_of origin card = number_at address_field card + origin

-- these bytes
abbrev pub bytes_of : List ℕ → List ℕ
bytes_of card = take (count_of card) (drop (text_field.first - 1) card)

-- where the program enters, if the card of the end says it
abbrev pub entry_of : ℕ → List ℕ → Option ℕ
entry_of origin card = if bytes_eq (at address_field card) no_entry then None else Some (address_of origin card)

-- the card has a byte for the address
abbrev pub covers : ℕ → List ℕ → ℕ → Bool
covers first bytes address = nat_le first address && nat_lt address (first + length bytes)

abbrev pub is_text : Option CardType → Bool
is_text (Some Text) = true
is_text _ = false

abbrev pub is_end : Option CardType → Bool
is_end (Some End) = true
is_end _ = false

-- the byte that the card puts at an address, where it puts one
unfoldable pub byte_on : ℕ → List ℕ → ℕ → Option ℕ
byte_on origin card address =
    if is_text (type_of card) && covers (address_of origin card) (bytes_of card) address
    then Some (slice_index (bytes_of card) (address - address_of origin card)) else None

abbrev pub over : Option ℕ → Option ℕ → Option ℕ
over (Some later) earlier = Some later
over None earlier = earlier

-- the byte that cards put at an address: that of the last one that puts one there
abbrev pub byte_from : ℕ → List (List ℕ) → ℕ → Option ℕ
byte_from origin [] address = None
byte_from origin (card ∷ cards) address = over (byte_from origin cards address) (byte_on origin card address)

-- ---- decks

-- all bytes of a range are accessible: from 8,192 to the end of storage
abbrev pub IsAccessible : ℕ → ℕ → Type 0
IsAccessible first size = 0 < size → (8192 ≤ first) × (first + size ≤ 1048576)

-- a card before the end: a section, or a text of at most 56 accessible bytes
pub record IsText (origin : ℕ) (card : List ℕ) : Type 0 where
  pub type : type_of card ≡ Some Text
  pub few : count_of card ≤ most_text
  pub within : IsAccessible (address_of origin card) (count_of card)

abbrev pub IsPart : ℕ → List ℕ → Type 0
IsPart origin card = (length card ≡ card_size) × ((type_of card ≡ Some Section) ⊎ IsText origin card)

-- the card of the end, with an entry in storage or without one
pub record IsEnd (origin : ℕ) (card : List ℕ) : Type 0 where
  pub size : length card ≡ card_size
  pub type : type_of card ≡ Some End
  pub within : (entry : ℕ) → entry_of origin card ≡ Some entry → entry < 1048576

-- So many zeros. It stays closed: a list of a million elements is never to be computed.
unfoldable pub zeros : ℕ → List ℕ
zeros n = replicate n 0

-- Storage holds what the cards put there, and zeros elsewhere.
pub record Holds (origin : ℕ) (cards : List (List ℕ)) (storage : List ℕ) : Type 0 where
  pub size : length storage ≡ 1048576
  pub bytes : (address : ℕ) → address < 1048576
      → slice_index storage address ≡ unwrap_or (byte_from origin cards address) 0

-- The bytes are a deck, which, loaded at the origin, is this storage and this entry: cards with a text or a
-- section, and the card of the end behind them.
pub record IsDeck (bytes : List ℕ) (origin : ℕ) (storage : List ℕ) (entry : Option ℕ) : Type 0 where
  pub few : length bytes ≤ most_bytes
  pub cards : List (List ℕ)
  pub last : List ℕ
  pub whole : bytes ≡ concat cards ++ last
  pub parts : All (IsPart origin) cards
  pub end : IsEnd origin last
  pub holds : Holds origin cards storage
  pub enters : entry ≡ entry_of origin last

-- ---- faults

abbrev pub is_type : CardType → Option CardType → Bool
is_type Relocation (Some Relocation) = true
is_type Symbol (Some Symbol) = true
is_type _ _ = false

-- a byte of the text, or the entry, has no place
abbrev pub is_accessible : ℕ → ℕ → Bool
is_accessible first size = not (nat_lt 0 size) || (nat_le 8192 first && nat_le (first + size) 1048576)

abbrev pub is_above : Option ℕ → Bool
is_above None = false
is_above (Some entry) = nat_lt 1048575 entry

abbrev pub is_outside : ℕ → List ℕ → Bool
is_outside origin card =
    (is_text (type_of card) && not (is_accessible (address_of origin card) (count_of card)))
    || (is_end (type_of card) && is_above (entry_of origin card))

-- a test, and the kind of fault where it holds
pub record Test : Type 0 where
  pub kind : Kind
  pub holds : Bool

abbrev pub test : Kind → Bool → Test
test kind holds = record { kind = kind; holds = holds }

-- the tests of what stands at a card's place, in their order; `ended` says that the end was before it
abbrev pub tests : ℕ → Bool → List ℕ → List Test
tests origin ended card =
    test kinds.ShortCard (not (length card == card_size))
    ∷ test kinds.AfterEnd ended
    ∷ test kinds.NotACard (is_none (type_of card))
    ∷ test kinds.RelocationCard (is_type Relocation (type_of card))
    ∷ test kinds.SymbolCard (is_type Symbol (type_of card))
    ∷ test kinds.BadCount (is_text (type_of card) && nat_lt most_text (count_of card))
    ∷ test kinds.OutOfRange (is_outside origin card)
    ∷ []

-- the kind of the first one that holds
abbrev pub first_kind : List Test → Option Kind
first_kind [] = None
first_kind (t ∷ ts) = if t.holds then Some t.kind else first_kind ts

unfoldable pub fault_of : ℕ → Bool → List ℕ → Option Kind
fault_of origin ended card = first_kind (tests origin ended card)

-- Cards, one behind the other, have no fault; `ended` says that the end was before them.
abbrev pub Pass : ℕ → Bool → List (List ℕ) → Type 0
Pass origin ended [] = Unit {0}
Pass origin ended (card ∷ cards) =
    (fault_of origin ended card ≡ None) × Pass origin (ended || is_end (type_of card)) cards

abbrev pub ends : List (List ℕ) → Bool
ends [] = false
ends (card ∷ cards) = is_end (type_of card) || ends cards

-- The first fault of the bytes: the number of its card, from 1 on, and its kind. Either there are too many
-- bytes; or the cards before it have no fault, and it has; or there is no card of the end.
pub data FirstFault (bytes : List ℕ) (origin : ℕ) (number : ℕ) (kind : Kind) : Type 0 where
  too_long : most_bytes < length bytes → number ≡ card_cut → kind ≡ kinds.ShortCard
      → FirstFault bytes origin number kind
  at_card : length bytes ≤ most_bytes → (before : List (List ℕ)) (rest : List ℕ)
      → bytes ≡ concat before ++ rest → Pass origin false before → 0 < length rest
      → fault_of origin (ends before) (take card_size rest) ≡ Some kind → number ≡ length before + 1
      → FirstFault bytes origin number kind
  no_end : length bytes ≤ most_bytes → (cards : List (List ℕ))
      → bytes ≡ concat cards → Pass origin false cards → ends cards ≡ false → number ≡ length cards + 1
      → kind ≡ kinds.NoEnd → FirstFault bytes origin number kind
