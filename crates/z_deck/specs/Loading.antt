-- What the cards of a deck, read one after the other, leave.
use Rattle.std.specs.Prelude.{◌≡◌, ℕ, ◌<◌, false, List, [], ◌∷◌, ◌++◌, All, slice_index, Option, Some, None}
use Rattle.std.specs.Prelude.{is_some}
use Rattle.z_deck.specs.Reading.{Pass, Holds, IsPart, IsEnd, ends, entry_of}

-- the cards are parts and a card of the end behind them
pub record IsClosed (origin : ℕ) (cards : List (List ℕ)) (entry : Option ℕ) : Type 0 where
  pub before : List (List ℕ)
  pub last : List ℕ
  pub are : cards ≡ before ++ last ∷ []
  pub parts : All (IsPart origin) before
  pub end : IsEnd origin last
  pub enters : entry ≡ entry_of origin last

-- and whether the end was there
abbrev pub HasEnd : ℕ → List (List ℕ) → Option (Option ℕ) → Type 0
HasEnd origin cards None = All (IsPart origin) cards
HasEnd origin cards (Some entry) = IsClosed origin cards entry

-- what the cards leave: storage, and the entry if the end was there
pub record Loaded (origin : ℕ) (cards : List (List ℕ)) (storage : List ℕ) (end : Option (Option ℕ)) : Type 0
  where
    pub passed : Pass origin false cards
    pub holds : Holds origin cards storage
    pub low : (address : ℕ) → address < 8192 → slice_index storage address ≡ 0
    pub ended : is_some end ≡ ends cards
    pub has : HasEnd origin cards end
