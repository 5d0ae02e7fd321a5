-- What an input consists of: a listing, and from a line that is a mark on something else.
use Rattle.std.specs.Prelude.{◌≡◌, ◌≢◌, ℕ, ◌⊎◌, All, List, [], ◌∷◌, ◌++◌}
use Rattle.input_parts.specs.Lines.{lines_of, ended, joined}

-- the listing; what begins with the line that is the mark; and the same without that line
pub record Pieces : Type 0 where
  pub listing : List ℕ
  pub marked : List ℕ
  pub behind : List ℕ

abbrev pub AreUnmarked : List ℕ → List (List ℕ) → Type 0
AreUnmarked mark lines = All (λ (line : List ℕ). line ≢ mark) lines

-- no line is the mark: all is listing
pub record HasNoMark (mark input : List ℕ) (p : Pieces) : Type 0 where
  pub unmarked : AreUnmarked mark (lines_of input)
  pub listing_is : p.listing ≡ input
  pub marked_is : p.marked ≡ []
  pub behind_is : p.behind ≡ []

-- the first line that is the mark stands between the listing and what is behind it, and begins what is marked
pub record HasMark (mark input : List ℕ) (p : Pieces) : Type 0 where
  pub before : List (List ℕ)
  pub after : List (List ℕ)
  pub lines : lines_of input ≡ before ++ mark ∷ after
  pub first : AreUnmarked mark before
  pub listing_is : p.listing ≡ ended before
  pub marked_is : p.marked ≡ joined (mark ∷ after)
  pub behind_is : p.behind ≡ joined after

abbrev pub IsParted : List ℕ → List ℕ → Pieces → Type 0
IsParted mark input p = HasNoMark mark input p ⊎ HasMark mark input p

pub record HasPieces (mark input : List ℕ) : Type 0 where
  pub pieces : Pieces
  pub parted : IsParted mark input pieces
