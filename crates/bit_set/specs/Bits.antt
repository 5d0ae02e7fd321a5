-- Bits of words, and places among marks.
use Rattle.std.specs.Prelude.{◌≡◌, ℕ, ◌*◌, ◌/◌, ◌%◌, ◌<◌, ◌≤◌, Bool, true, false, ◌&&◌, ◌==◌, nat_le, nat_lt, List}
use Rattle.std.specs.Prelude.{length, map}
use Rattle.std.specs.Int.{bit_at}
use Rattle.std.specs.List.{slice_index_or, range_with_len}

-- whether bit i of a word is one, bit 0 being the lowest
unfoldable pub bit : ℕ → ℕ → Bool
bit word i = bit_at word i == 1

-- the bits of words of 64 bits, from the lowest bit of the first word on
unfoldable pub bits_of : List ℕ → List Bool
bits_of words =
    map (λ k. bit (slice_index_or words (k / 64) 0) (k % 64)) (range_with_len 0 (64 * length words))

-- the lowest bit from a place on that is one
pub record IsLowestBit (word from at : ℕ) : Type 0 where
  pub within : at < 64
  pub from_on : from ≤ at
  pub set : bit word at ≡ true
  pub first : (i : ℕ) → from ≤ i → i < at → bit word i ≡ false

-- the place is marked, and it is the first such one from `from` on and below `end`
pub record IsNext (marks : List Bool) (from end at : ℕ) : Type 0 where
  pub from_on : from ≤ at
  pub below : at < end
  pub marked : slice_index_or marks at false ≡ true
  pub first : (k : ℕ) → from ≤ k → k < at → slice_index_or marks k false ≡ false

-- no place from `from` on and below `end` is marked
abbrev pub NoneMarked : List Bool → ℕ → ℕ → Type 0
NoneMarked marks from end = (k : ℕ) → from ≤ k → k < end → slice_index_or marks k false ≡ false

-- whether a number lies from `first` on and below `end`
abbrev pub lies_in : ℕ → ℕ → ℕ → Bool
lies_in first end k = nat_le first k && nat_lt k end
