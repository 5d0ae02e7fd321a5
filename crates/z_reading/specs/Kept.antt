-- The places of lines in a text.
use Rattle.std.specs.Prelude.{◌≡◌, ℕ, ◌+◌, ◌≤◌, List, length}
use Rattle.z_text.specs.Line.{span}
use Rattle.z_reading.specs.declared.kept.Kept.{Kept}

-- the line lies in a text of so many bytes
abbrev pub LiesIn : ℕ → Kept → Type 0
LiesIn size k = k.first + k.count ≤ size

-- the line stands at this place of the text
pub record IsThere (text : List ℕ) (first : ℕ) (line : List ℕ) : Type 0 where
  pub within : first + length line ≤ length text
  pub is : span first (first + length line) text ≡ line
