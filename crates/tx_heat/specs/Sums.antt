-- Sums over the first numbers.
use Rattle.std.specs.Prelude.{ℕ, zero, suc, ◌+◌}

unfoldable pub sum_below : ℕ → (ℕ → ℕ) → ℕ
sum_below zero f = 0
sum_below (suc n) f = sum_below n f + f n
