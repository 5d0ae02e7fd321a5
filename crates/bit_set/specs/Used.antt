-- Which words of a set are in use.
use Rattle.std.specs.Prelude.{◌≡◌, ℕ, ◌<◌, ◌≤◌, ◌^◌, All, List, length}
use Rattle.std.specs.List.{slice_index_or}

-- no word but those from `low` on and below `high` has a bit that is one
pub record IsZeroOutside (words : List ℕ) (low high : ℕ) : Type 0 where
  pub below : (at : ℕ) → at < low → slice_index_or words at 0 ≡ 0
  pub from_on : (at : ℕ) → high ≤ at → slice_index_or words at 0 ≡ 0

-- words of 64 bits, of which those from `low` on and below `high` are in use
pub record IsKept (words : List ℕ) (low high : ℕ) : Type 0 where
  pub fits : All (λ word. word < 2 ^ 64) words
  pub end : high ≤ length words
  pub used : IsZeroOutside words low high
