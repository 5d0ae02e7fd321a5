-- The interruption codes of exceptions, as the architecture numbers them.
use Rattle.std.specs.Prelude.{ℕ}

abbrev pub operation_code : ℕ
operation_code = 0x0001

abbrev pub protection_code : ℕ
protection_code = 0x0004

abbrev pub addressing_code : ℕ
addressing_code = 0x0005

abbrev pub specification_code : ℕ
specification_code = 0x0006

abbrev pub fixed_point_overflow_code : ℕ
fixed_point_overflow_code = 0x0008

abbrev pub fixed_point_divide_code : ℕ
fixed_point_divide_code = 0x0009

abbrev pub special_operation_code : ℕ
special_operation_code = 0x0013

abbrev pub transaction_constraint_code : ℕ
transaction_constraint_code = 0x0018
