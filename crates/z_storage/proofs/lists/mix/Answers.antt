use Rattle.std.proofs.Common.{arith}
use Rattle.z_storage.proofs.lists.mix.Goals as goal

pub overflow_cast-result : goal.overflow_cast-result
overflow_cast-result c = omega (arith, c.logic.ensures.fits 8 (omega arith) (omega arith))
