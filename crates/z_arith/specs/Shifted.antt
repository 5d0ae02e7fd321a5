-- Shifts and rotations by n places, with n below 64.
use Rattle.std.specs.Prelude.{ℕ, ◌+◌, ◌-◌, ◌*◌, ◌/◌, ◌%◌, ◌^◌, ◌≢◌, pos, ◌*ℤ◌, not, nat_lt, if◌then◌else◌}
use Rattle.std.specs.Int.{int_div_euclid}
use Rattle.z_arith.specs.declared.Width.{Width}
use Rattle.z_arith.specs.declared.Answer.{Answer}
use Rattle.z_arith.specs.declared.Shift.{Shift}
use Rattle.z_arith.specs.declared.Shift.TheVariants.{LeftLogical, RightLogical, LeftSigned, RightSigned}
use Rattle.z_arith.specs.declared.Shift.TheVariants.{Rotate}
use Rattle.z_arith.specs.Whole.{bits, signed, fits_signed, sign_code, signed_answer, plain_answer}

-- the leftmost of k bits as it is, and beside it what is kept of the others when they go left
abbrev pub kept_bits : ℕ → ℕ → ℕ → ℕ
kept_bits k a n = let half = 2 ^ (k - 1) in (if nat_lt a half then 0 else half) + a * 2 ^ n % half

-- There is overflow where the number times 2 ^ n does not fit; else the code is that of this product.
unfoldable pub left_signed_of : ℕ → ℕ → ℕ → Answer
left_signed_of k a n =
    let product = signed k a *ℤ pos (2 ^ n) in
    record {
      value = kept_bits k a n;
      condition = if fits_signed k product then sign_code product else 3;
      overflow = not (fits_signed k product);
    }

-- The number divided by 2 ^ n and rounded down: copies of the sign come in from the left.
unfoldable pub right_signed_of : ℕ → ℕ → ℕ → Answer
right_signed_of k a n = signed_answer k (int_div_euclid (signed k a) (pos (2 ^ n)))

-- the bits that leave k bits on the left come in on the right
unfoldable pub rotated : ℕ → ℕ → ℕ → ℕ
rotated k a n = let moved = a * 2 ^ n in moved % 2 ^ k + moved / 2 ^ k

-- Shifts without a sign and rotations set no code: it is given as 0. A word rotates by n modulo 32.
unfoldable pub shift_of : Shift → Width → ℕ → ℕ → Answer
shift_of LeftLogical w a n = plain_answer (a * 2 ^ n % 2 ^ bits w) 0
shift_of RightLogical w a n = plain_answer (a / 2 ^ n) 0
shift_of LeftSigned w a n = left_signed_of (bits w) a n
shift_of RightSigned w a n = right_signed_of (bits w) a n
shift_of Rotate w a n = plain_answer (rotated (bits w) a (n % bits w)) 0

-- the bits that leave the k - 1 bits right of the sign, as a number of n bits
abbrev pub lost_bits : ℕ → ℕ → ℕ → ℕ
lost_bits k a n = a % 2 ^ (k - 1) * 2 ^ n / 2 ^ (k - 1)

-- n copies of the leftmost of k bits
abbrev pub sign_copies : ℕ → ℕ → ℕ → ℕ
sign_copies k a n = if nat_lt a (2 ^ (k - 1)) then 0 else 2 ^ n - 1

-- a shift of k bits to the left by n places loses a bit that is unlike the sign
unfoldable pub LosesUnlike : ℕ → ℕ → ℕ → Type 0
LosesUnlike k a n = lost_bits k a n ≢ sign_copies k a n
