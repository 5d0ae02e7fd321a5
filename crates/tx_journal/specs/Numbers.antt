-- Numbers in texts, and what separates them.
use Rattle.std.specs.Prelude.{◌≢◌, ℕ, ◌<◌, List, ◌∷◌, ◌++◌, length, slice_index}
use Rattle.std.specs.Fmt.{decimal}

-- the byte does not stand in the text
abbrev pub Lacks : ℕ → List ℕ → Type 0
Lacks c text = (i : ℕ) → i < length text → slice_index text i ≢ c

-- a number in decimal, a blank, and more
abbrev pub number_before : ℕ → List ℕ → List ℕ
number_before n rest = decimal n ++ 32 ∷ rest
