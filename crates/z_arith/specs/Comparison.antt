-- Comparisons, tests of bits, and the search for the first one.
use Rattle.std.specs.Prelude.{ℕ, zero, suc, ◌+◌, ◌-◌, ◌^◌, ◌≡◌, ◌<◌, List, [], ◌∷◌, nat_eq, if◌then◌else◌}
use Rattle.std.specs.Ordering.{nat_cmp, int_cmp}
use Rattle.std.specs.declared.cmp.Ordering.{Ordering}
use Rattle.std.specs.declared.cmp.Ordering.TheVariants.{Less, Equal, Greater}
use Rattle.std.specs.Int.{bit_at}
use Rattle.std.specs.List.{list_all}
use Rattle.z_arith.specs.declared.Width.{Width}
use Rattle.z_arith.specs.Whole.{bits, signed}

-- 0 where both are equal, 1 where the first is low, 2 where the first is high
abbrev pub order_code : Ordering → ℕ
order_code Equal = 0
order_code Less = 1
order_code Greater = 2

unfoldable pub compare_signed_of : Width → ℕ → ℕ → ℕ
compare_signed_of w a b = order_code (int_cmp (signed (bits w) a) (signed (bits w) b))

unfoldable pub compare_logical_of : ℕ → ℕ → ℕ
compare_logical_of a b = order_code (nat_cmp a b)

-- the bits of a in those of the k rightmost places where the mask has a one, from the left
unfoldable pub selected : ℕ → ℕ → ℕ → List ℕ
selected zero a mask = []
selected (suc k) a mask =
    if nat_eq (bit_at mask k) 1 then bit_at a k ∷ selected k a mask
    else selected k a mask

-- the first of some bits
unfoldable pub leftmost : List ℕ → ℕ
leftmost [] = 0
leftmost (b ∷ rest) = b

-- 0 where all selected bits are zero, or none is selected; 3 where all are ones; else the code for both kinds
abbrev pub test_code : List ℕ → ℕ → ℕ
test_code picked mixed =
    if list_all (λ b. nat_eq b 0) picked then 0
    else if list_all (λ b. nat_eq b 1) picked then 3
    else mixed

unfoldable pub test_under_mask_of : ℕ → ℕ → ℕ
test_under_mask_of byte mask = test_code (selected 8 byte mask) 1

-- with bits of both kinds, the leftmost selected one decides
unfoldable pub test_halfword_of : ℕ → ℕ → ℕ
test_halfword_of value mask = let picked = selected 16 value mask in test_code picked (1 + leftmost picked)

-- how many zeros stand left of the first one of k bits
unfoldable pub zeros_left : ℕ → ℕ → ℕ
zeros_left zero a = 0
zeros_left (suc k) a = if nat_eq (bit_at a k) 0 then suc (zeros_left k a) else 0

-- That number, the doubleword without its first one, and the code; 64 and code 0 where there is no one.
unfoldable pub leftmost_one_of : ℕ → ℕ × ℕ × ℕ
leftmost_one_of a =
    if nat_eq a 0 then (64, 0, 0)
    else let zeros = zeros_left 64 a in (zeros, a - 2 ^ (63 - zeros), 2)

-- a number with a first one has so many zeros left of it in a doubleword, and this rest right of it
unfoldable pub HasFirstOne : ℕ → ℕ → ℕ → Type 0
HasFirstOne a zeros rest = (2 ^ (63 - zeros) + rest ≡ a) × (rest < 2 ^ (63 - zeros))
