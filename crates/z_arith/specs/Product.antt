-- Products.
use Rattle.std.specs.Prelude.{ℕ, ◌*◌, ◌/◌, ◌%◌, ◌^◌, ◌*ℤ◌}
use Rattle.z_arith.specs.declared.Width.{Width}
use Rattle.z_arith.specs.Whole.{bits, signed, modulo}

-- the rightmost bits of the product of two numbers with a sign
unfoldable pub multiply_low_of : Width → ℕ → ℕ → ℕ
multiply_low_of w a b = modulo (bits w) (signed (bits w) a *ℤ signed (bits w) b)

-- the product of two words with a sign: a doubleword has room for it
unfoldable pub multiply_word_of : ℕ → ℕ → ℕ
multiply_word_of a b = modulo 64 (signed 32 a *ℤ signed 32 b)

-- the product of two doublewords without a sign: its left and its right doubleword
unfoldable pub multiply_logical_of : ℕ → ℕ → ℕ × ℕ
multiply_logical_of a b = (a * b / 2 ^ 64, a * b % 2 ^ 64)
