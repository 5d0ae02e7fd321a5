-- Words and doublewords, and the whole numbers that they stand for.
use Rattle.std.specs.Prelude.{ℕ, ◌-◌, ◌%◌, ◌^◌, ℤ, pos, negsuc, Bool, false, not, nat_eq, nat_lt}
use Rattle.std.specs.Prelude.{if◌then◌else◌}
use Rattle.z_arith.specs.declared.Width.{Width}
use Rattle.z_arith.specs.declared.Width.TheVariants.{Word, Double}
use Rattle.z_arith.specs.declared.Answer.{Answer}

abbrev pub bits : Width → ℕ
bits Word = 32
bits Double = 64

-- the number with a sign that k bits stand for: from 2 ^ (k - 1) up they stand for 2 ^ k less
abbrev pub signed : ℕ → ℕ → ℤ
signed k n = if nat_lt n (2 ^ (k - 1)) then pos n else negsuc (2 ^ k - 1 - n)

-- the rightmost k bits of z: the number from 0 up to 2 ^ k - 1 that differs from z by a multiple of 2 ^ k
abbrev pub modulo : ℕ → ℤ → ℕ
modulo k (pos n) = n % 2 ^ k
modulo k (negsuc n) = 2 ^ k - 1 - n % 2 ^ k

-- z lies from -2 ^ (k - 1) up to 2 ^ (k - 1) - 1
abbrev pub fits_signed : ℕ → ℤ → Bool
fits_signed k (pos n) = nat_lt n (2 ^ (k - 1))
fits_signed k (negsuc n) = nat_lt n (2 ^ (k - 1))

-- 0 for zero, 1 for a negative number, 2 for a positive one
abbrev pub sign_code : ℤ → ℕ
sign_code (pos n) = if nat_eq n 0 then 0 else 2
sign_code (negsuc n) = 1

-- z brought into k bits: where it does not fit, its rightmost k bits, code 3 and overflow
abbrev pub signed_answer : ℕ → ℤ → Answer
signed_answer k z =
    record {
      value = modulo k z;
      condition = if fits_signed k z then sign_code z else 3;
      overflow = not (fits_signed k z);
    }

-- an answer that cannot overflow
abbrev pub plain_answer : ℕ → ℕ → Answer
plain_answer v c = record { value = v; condition = c; overflow = false }
