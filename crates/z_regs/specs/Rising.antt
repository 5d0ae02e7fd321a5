-- Numbers in rising order, each once, and one more in its place among them.
use Rattle.std.specs.Prelude.{ℕ, ◌+◌, ◌<◌, nat_eq, nat_lt, if◌then◌else◌, List, [], ◌∷◌}

-- one more number in its place among rising ones, where it is not there
abbrev pub with_number : List ℕ → ℕ → List ℕ
with_number [] number = number ∷ []
with_number (first ∷ rest) number =
    if nat_lt first number then first ∷ with_number rest number
    else (if nat_eq first number then first ∷ rest else number ∷ first ∷ rest)

-- how many of them come before a number's place
abbrev pub numbers_below : List ℕ → ℕ → ℕ
numbers_below [] number = 0
numbers_below (first ∷ rest) number = if nat_lt first number then numbers_below rest number + 1 else 0

-- each is above the one before it
abbrev pub IsAbove : ℕ → List ℕ → Type 0
IsAbove before [] = Unit {0}
IsAbove before (first ∷ rest) = before < first

abbrev pub Ascends : List ℕ → Type 0
Ascends [] = Unit {0}
Ascends (first ∷ rest) = IsAbove first rest × Ascends rest
