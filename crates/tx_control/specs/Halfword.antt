-- Bits of a halfword.
use Rattle.std.specs.Prelude.{ℕ, ◌-◌, ◌/◌, ◌%◌, ◌^◌, Bool, nat_eq}

-- whether bit i is one, counted from the left
abbrev pub bit_of : ℕ → ℕ → Bool
bit_of i halfword = nat_eq (halfword / 2 ^ (15 - i) % 2) 1
