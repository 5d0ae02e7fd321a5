-- How many numbers pass a test.
use Rattle.std.specs.Prelude.{ℕ, zero, suc, ◌+◌, Bool, true, false, ◌==◌, if◌then◌else◌}

-- one for a test that holds
abbrev pub one_if : Bool → ℕ
one_if true = 1
one_if false = 0

-- how many of the numbers below n pass
unfoldable pub count_below : ℕ → (ℕ → Bool) → ℕ
count_below zero test = 0
count_below (suc n) test = count_below n test + one_if (test n)

-- the test changed at one number
abbrev pub but_at : (ℕ → Bool) → ℕ → Bool → ℕ → Bool
but_at test at value k = if k == at then value else test k
