-- Sums of remainders.
use Rattle.std.proofs.Common.{◌≡◌, ℕ, ◌+◌, ◌%◌}
use Rattle.std.proofs.Math.Nat.{mod-add-mod}

-- what is left of a number may be added in its place
pub sum_of_remainder : (a b m : ℕ) → (a % m + b) % m ≡ (a + b) % m
sum_of_remainder a b m = mod-add-mod a m b
