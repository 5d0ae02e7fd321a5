-- The lines of a text, and writing over a part of a list.
use Rattle.std.specs.Prelude.{ℕ, ◌+◌, ◌-◌, List, ◌++◌, length, take, drop, replicate}
use Rattle.z_text.specs.Line.{as_read}
use Rattle.z_fields.specs.Pieces.{pieces_by}

-- the lines of a text in capitals, with their ends
unfoldable pub lines_of : List ℕ → List (List ℕ)
lines_of text = pieces_by 10 (as_read text)

-- The list with these elements written over it from `at` on.
unfoldable pub write_at : {X : Type 0} → ℕ → List X → List X → List X
write_at at new old = take at old ++ (new ++ drop (at + length new) old)

abbrev pub cut : {X : Type 0} → ℕ → ℕ → List X → List X
cut from to xs = take (to - from) (drop from xs)

-- So many times a value. It stays closed: a list of a million elements is never to be computed.
unfoldable pub copies : {X : Type 0} → ℕ → X → List X
copies n x = replicate n x
