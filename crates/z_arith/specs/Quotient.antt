-- Quotients and remainders.
use Rattle.std.specs.Prelude.{ℕ, ◌+◌, ◌*◌, ◌/◌, ◌%◌, ◌^◌, ◌<◌, ◌≡◌, ℤ, pos, ◌+ℤ◌, ◌*ℤ◌, int_div, int_rem}
use Rattle.std.specs.Prelude.{unsigned_abs, not, ◌||◌, ◌⊎◌, nat_eq, nat_lt, if◌then◌else◌, Result, Ok, Err}
use Rattle.std.specs.Int.{is_negative}
use Rattle.z_arith.specs.declared.DivideFault.{DivideFault}
use Rattle.z_arith.specs.Whole.{signed, modulo, fits_signed}

-- The quotient is rounded toward zero, and the remainder is what is then left of the dividend: it is
-- nearer to zero than the divisor, and is zero or has the dividend's sign.
pub record IsDivision (dividend divisor quotient remainder : ℤ) : Type 0 where
  pub whole : quotient *ℤ divisor +ℤ remainder ≡ dividend
  pub below : unsigned_abs remainder < unsigned_abs divisor
  pub sign : (remainder ≡ pos 0) ⊎ (is_negative remainder ≡ is_negative dividend)

-- Remainder and quotient of numbers with a sign, in k bits each. The quotient is rounded toward zero
-- and the remainder has the dividend's sign. The fault comes where the divisor is 0 or the quotient
-- does not fit.
abbrev pub divide_signed_of : ℕ → ℤ → ℤ → Result (ℕ × ℕ) DivideFault
divide_signed_of k dividend divisor =
    if nat_eq (unsigned_abs divisor) 0 || not (fits_signed k (int_div dividend divisor)) then Err (record {})
    else Ok (modulo k (int_rem dividend divisor), modulo k (int_div dividend divisor))

-- a doubleword by a word
unfoldable pub divide_word_of : ℕ → ℕ → Result (ℕ × ℕ) DivideFault
divide_word_of dividend divisor = divide_signed_of 32 (signed 64 dividend) (signed 32 divisor)

-- a doubleword by a doubleword
unfoldable pub divide_double_of : ℕ → ℕ → Result (ℕ × ℕ) DivideFault
divide_double_of dividend divisor = divide_signed_of 64 (signed 64 dividend) (signed 64 divisor)

-- remainder and quotient of numbers without a sign; the dividend has two doublewords
unfoldable pub divide_logical_of : ℕ → ℕ → ℕ → Result (ℕ × ℕ) DivideFault
divide_logical_of high low divisor =
    let dividend = high * 2 ^ 64 + low in
    if nat_eq divisor 0 || not (nat_lt (dividend / divisor) (2 ^ 64)) then Err (record {})
    else Ok (dividend % divisor, dividend / divisor)

-- what the three calls give, remainder first, in whole numbers
unfoldable pub DividesWord : ℕ → ℕ → ℕ × ℕ → Type 0
DividesWord dividend divisor pair =
    IsDivision (signed 64 dividend) (signed 32 divisor) (signed 32 pair.1) (signed 32 pair.0)

unfoldable pub DividesDouble : ℕ → ℕ → ℕ × ℕ → Type 0
DividesDouble dividend divisor pair =
    IsDivision (signed 64 dividend) (signed 64 divisor) (signed 64 pair.1) (signed 64 pair.0)

unfoldable pub DividesLogical : ℕ → ℕ → ℕ → ℕ × ℕ → Type 0
DividesLogical high low divisor pair = (pair.1 * divisor + pair.0 ≡ high * 2 ^ 64 + low) × (pair.0 < divisor)
