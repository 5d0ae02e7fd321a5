-- A text as its lines, and where they begin.
use Rattle.std.specs.Prelude.{◌≡◌, ℕ, ◌+◌, ◌<◌, ◌≤◌, ◌==◌, if◌then◌else◌, List, [], ◌∷◌, drop, length, get_or}
use Rattle.report_form.specs.declared.places.Place.{Place}

-- a byte in front of lines, at the begin of the first
abbrev pub in_front : ℕ → List (List ℕ) → List (List ℕ)
in_front byte [] = (byte ∷ []) ∷ []
in_front byte (line ∷ lines) = (byte ∷ line) ∷ lines

-- the lines of a text, each with the line feed at its end; what stands behind the last line feed is one more
unfoldable pub lines_of : List ℕ → List (List ℕ)
lines_of [] = []
lines_of (byte ∷ rest) = if byte == 10 then (byte ∷ []) ∷ lines_of rest else in_front byte (lines_of rest)

-- so many lines of the text end in front of so many bytes, and the others begin there
pub record IsPlace (text : List ℕ) (p : Place) : Type 0 where
  pub within : p.byte ≤ length text
  pub few : p.line ≤ p.byte
  pub known : p.line ≤ length (lines_of text)
  pub behind : lines_of (drop p.byte text) ≡ drop p.line (lines_of text)

-- the line of the text at this place, counted from 0
pub record IsLineAt (text : List ℕ) (at : ℕ) (line : List ℕ) : Type 0 where
  pub there : at < length (lines_of text)
  pub is : get_or (lines_of text) at [] ≡ line

-- the place behind one line more
pub record IsNext (text : List ℕ) (at next : Place) : Type 0 where
  pub line : next.line ≡ at.line + 1
  pub place : IsPlace text next
