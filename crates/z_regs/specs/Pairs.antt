-- Pairs of general registers: pair i is registers 2i and 2i + 1.
use Rattle.std.specs.Prelude.{ℕ, ◌-◌, ◌/◌, ◌%◌, ◌^◌, Bool, nat_eq}

-- a mask of eight bits selects pair i where its bit i is one, counted from the left
abbrev pub saves_pair : ℕ → ℕ → Bool
saves_pair mask pair = nat_eq (mask / 2 ^ (7 - pair) % 2) 1
