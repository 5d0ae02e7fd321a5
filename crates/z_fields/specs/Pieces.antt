-- A text cut into pieces, and the lines of a text without their ends.
use Rattle.std.specs.Prelude.{ℕ, ◌+◌, ◌-◌, Bool, not, ◌&&◌, List, [], ◌∷◌, length, take, slice_index, nat_lt}
use Rattle.std.specs.Prelude.{◌==◌, if◌then◌else◌}
use Rattle.std.specs.List.{prefix_len}

-- a byte before a text that was cut into pieces
abbrev pub onto : ℕ → List (List ℕ) → List (List ℕ)
onto b [] = (b ∷ []) ∷ []
onto b (l ∷ ls) = (b ∷ l) ∷ ls

-- The pieces of a text, each with the byte that ends it; the last may have none.
unfoldable pub pieces_by : ℕ → List ℕ → List (List ℕ)
pieces_by stop [] = []
pieces_by stop (b ∷ bs) = if b == stop then (b ∷ []) ∷ pieces_by stop bs else onto b (pieces_by stop bs)

abbrev pub is_before : ℕ → ℕ → Bool
is_before stop b = not (b == stop)

-- a piece has the byte that ends it, where there is one
abbrev pub size_with_end : ℕ → ℕ → ℕ
size_with_end count all = if nat_lt count all then count + 1 else count

-- how many bytes the first piece has
abbrev pub first_size : ℕ → List ℕ → ℕ
first_size stop text = size_with_end (prefix_len (is_before stop) text) (length text)

abbrev pub ends_with : ℕ → List ℕ → Bool
ends_with b text = nat_lt 0 (length text) && (slice_index text (length text - 1) == b)

-- the text without its last byte
abbrev pub shortened : List ℕ → List ℕ
shortened text = take (length text - 1) text

abbrev pub without_return : List ℕ → List ℕ
without_return text = if ends_with 13 text then shortened text else text

-- a line without its line feed, and without one carriage return before that
abbrev pub without_end : List ℕ → List ℕ
without_end line = if ends_with 10 line then without_return (shortened line) else line
