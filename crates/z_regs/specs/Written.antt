-- Bytes from a place on.
use Rattle.std.specs.Prelude.{ℕ, ◌+◌, List, ◌++◌, length, take, drop}

-- so many bytes from a place on
abbrev pub range_at : List ℕ → ℕ → ℕ → List ℕ
range_at s first n = take n (drop first s)

-- other bytes from a place on
abbrev pub written : List ℕ → ℕ → List ℕ → List ℕ
written s first bytes = take first s ++ bytes ++ drop (first + length bytes) s
