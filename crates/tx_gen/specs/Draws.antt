-- The numbers that are drawn for a listing.
use Rattle.std.specs.Prelude.{ℕ, zero, suc, ◌+◌, ◌*◌, ◌/◌, ◌%◌, ◌^◌}

-- the state after one more draw
unfoldable pub state_after : ℕ → ℕ
state_after x = (x * 6364136223846793005 + 1442695040888963407) % 2 ^ 64

-- the state after so many draws, which begin with a number
abbrev pub state : ℕ → ℕ → ℕ
state number zero = number
state number (suc k) = state_after (state number k)

-- the draw of this place, from 0 on: the state after it without its last 33 bits
abbrev pub draw : ℕ → ℕ → ℕ
draw number k = state_after (state number k) / 2 ^ 33
