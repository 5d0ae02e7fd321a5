-- The lines of a text.
use Rattle.std.specs.Prelude.{ℕ, List, [], ◌∷◌, ◌++◌, ◌==◌}
use Rattle.std.specs.List.{slice_split, join_with_byte, flat_map}

-- the lines without their ends; behind the last end stands one more, which may be empty
abbrev pub lines_of : List ℕ → List (List ℕ)
lines_of text = slice_split (λ b. b == 10) text

-- lines, each with its end
abbrev pub ended : List (List ℕ) → List ℕ
ended lines = flat_map (λ line. line ++ 10 ∷ []) lines

-- lines with an end between each and the next
abbrev pub joined : List (List ℕ) → List ℕ
joined lines = join_with_byte 10 lines
