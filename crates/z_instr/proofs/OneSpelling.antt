-- The bits of a number are so many.
use Rattle.std.proofs.Common.{ℕ, ◌<◌, ◌^◌, arith}
use Rattle.std.specs.Prelude.{ℤ, pos, negsuc}
use Rattle.z_instr.specs.Reading.{modulo}

pub modulo_below : (k : ℕ) (z : ℤ) → 0 < 2 ^ k → modulo k z < 2 ^ k
modulo_below k (pos n) h = omega arith
modulo_below k (negsuc n) h = omega arith
