-- Sums and differences: the exact whole number, brought into range once at the end.
use Rattle.std.specs.Prelude.{ℕ, ◌+◌, ◌%◌, ◌^◌, pos, ◌+ℤ◌, ◌-ℤ◌, neg_ℤ, unsigned_abs, Bool, true, false, not}
use Rattle.std.specs.Prelude.{nat_eq, nat_lt}
use Rattle.std.specs.Int.{from_bool, is_negative}
use Rattle.z_arith.specs.declared.Width.{Width}
use Rattle.z_arith.specs.declared.Answer.{Answer}
use Rattle.z_arith.specs.Whole.{bits, signed, modulo, signed_answer, plain_answer}

unfoldable pub add_of : Width → ℕ → ℕ → Answer
add_of w a b = signed_answer (bits w) (signed (bits w) a +ℤ signed (bits w) b)

unfoldable pub subtract_of : Width → ℕ → ℕ → Answer
subtract_of w a b = signed_answer (bits w) (signed (bits w) a -ℤ signed (bits w) b)

-- the code after an addition without sign, by whether it carries and whether the value is zero
abbrev pub carry_code : Bool → Bool → ℕ
carry_code false true = 0
carry_code false false = 1
carry_code true true = 2
carry_code true false = 3

-- the sum carries where it does not fit
unfoldable pub add_logical_of : Width → ℕ → ℕ → Bool → Answer
add_logical_of w a b carry =
    let sum = a + b + from_bool carry in
    let value = sum % 2 ^ bits w in
    plain_answer value (carry_code (not (nat_lt sum (2 ^ bits w))) (nat_eq value 0))

-- the code after a subtraction without sign, by whether it borrows and whether the value is zero
abbrev pub borrow_code : Bool → Bool → ℕ
borrow_code true true = 0
borrow_code true false = 1
borrow_code false true = 2
borrow_code false false = 3

-- the difference borrows where it is below zero
unfoldable pub subtract_logical_of : Width → ℕ → ℕ → Bool → Answer
subtract_logical_of w a b borrow =
    let difference = pos a -ℤ pos (b + from_bool borrow) in
    let value = modulo (bits w) difference in
    plain_answer value (borrow_code (is_negative difference) (nat_eq value 0))

-- the absolute value
unfoldable pub positive_of : Width → ℕ → Answer
positive_of w a = signed_answer (bits w) (pos (unsigned_abs (signed (bits w) a)))

-- the negative of the absolute value
unfoldable pub negative_of : Width → ℕ → Answer
negative_of w a = signed_answer (bits w) (neg_ℤ (pos (unsigned_abs (signed (bits w) a))))

-- the negative
unfoldable pub complement_of : Width → ℕ → Answer
complement_of w a = signed_answer (bits w) (neg_ℤ (signed (bits w) a))
