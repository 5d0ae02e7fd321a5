-- What operations make of numbers.
use Rattle.std.specs.Prelude.{ℕ, ◌*◌, ◌%◌, ◌^◌, false, nat_eq, nat_le, nat_lt, if◌then◌else◌, bit_and, bit_or, bit_xor}
use Rattle.z_arith.specs.declared.Width.{Width}
use Rattle.z_arith.specs.declared.Answer.{Answer}
use Rattle.z_arith.specs.declared.Shift.{Shift}
use Rattle.z_arith.specs.declared.Shift.TheVariants.{LeftLogical, RightLogical, LeftSigned, RightSigned, Rotate}
use Rattle.z_arith.specs.Whole.{bits, signed, modulo, sign_code, plain_answer}
use Rattle.z_arith.specs.Sum.{add_of, subtract_of, add_logical_of, subtract_logical_of, positive_of, negative_of, complement_of}
use Rattle.z_arith.specs.Product.{multiply_low_of}
use Rattle.z_arith.specs.Comparison.{compare_signed_of, compare_logical_of}
use Rattle.z_arith.specs.Shifted.{shift_of}
use Rattle.z_instr.specs.declared.operand.Size.{Size}
use Rattle.z_instr.specs.Operands.{bytes_of}
use Rattle.z_instr.specs.declared.kind.Logic.{Logic}
use Rattle.z_instr.specs.declared.kind.Logic.TheVariants.{And, Or, ExclusiveOr}
use Rattle.z_instr.specs.declared.kind.Operation.{Operation}
use Rattle.z_instr.specs.declared.kind.Operation.TheVariants as operation
use Rattle.z_instr.specs.declared.kind.Order.{Order}
use Rattle.z_instr.specs.declared.kind.Order.TheVariants as order
use Rattle.z_instr.specs.declared.kind.Part.{Part}
use Rattle.z_instr.specs.declared.kind.Part.TheVariants as part

abbrev pub logic_of : Logic → ℕ → ℕ → ℕ
logic_of And a b = bit_and a b
logic_of Or a b = bit_or a b
logic_of ExclusiveOr a b = bit_xor a b

-- 0 for zero, 1 for anything else
abbrev pub zero_code : ℕ → ℕ
zero_code value = if nat_eq value 0 then 0 else 1

abbrev pub logic_answer : ℕ → Answer
logic_answer value = plain_answer value (zero_code value)

-- the result of both operands and its condition code, where the code was this one before
unfoldable pub combined : Operation → Width → ℕ → ℕ → ℕ → Answer
combined operation.Add w code a b = add_of w a b
combined operation.Subtract w code a b = subtract_of w a b
combined operation.AddLogical w code a b = add_logical_of w a b false
combined operation.SubtractLogical w code a b = subtract_logical_of w a b false
combined operation.AddWithCarry w code a b = add_logical_of w a b (nat_le 2 code)
combined operation.SubtractWithBorrow w code a b = subtract_logical_of w a b (nat_lt code 2)
combined operation.Multiply w code a b = plain_answer (multiply_low_of w a b) code
combined (operation.Logic l) w code a b = logic_answer (logic_of l a b)
combined operation.Load w code a b = plain_answer b code
combined operation.LoadAndTest w code a b = plain_answer b (sign_code (signed (bits w) b))
combined operation.LoadPositive w code a b = positive_of w b
combined operation.LoadNegative w code a b = negative_of w b
combined operation.LoadComplement w code a b = complement_of w b

abbrev pub compared : Order → Width → ℕ → ℕ → ℕ
compared order.Signed w a b = compare_signed_of w a b
compared order.Logical w a b = compare_logical_of a b

abbrev pub bits_in : Size → ℕ
bits_in s = 8 * bytes_of s

-- the number in a piece, as a pattern of a width
abbrev pub extended : Width → Part → ℕ → ℕ
extended w (part.Plain s) n = n % 2 ^ bits w
extended w (part.Signed s) n = modulo (bits w) (signed (bits_in s) n)

-- shifts without a sign and rotations leave the code, which was this one before
abbrev pub code_after : Shift → ℕ → Answer → ℕ
code_after LeftLogical code a = code
code_after RightLogical code a = code
code_after LeftSigned code a = a.condition
code_after RightSigned code a = a.condition
code_after Rotate code a = code

unfoldable pub shifted : Shift → Width → ℕ → ℕ → ℕ → Answer
shifted k w code value amount =
    let a = shift_of k w value amount in record a { condition = code_after k code a }
