use Rattle.std.proofs.Common.{arith}
use Rattle.z_deck.proofs.Written.{first_bound}
use Rattle.z_deck.proofs.writing.entry_of.Goals as goal

pub overflow_cast-result : goal.overflow_cast-result
overflow_cast-result c =
    omega (
      arith,
      first_bound c.image.inside.cpus.items c.index.result.now c.image.invariant.some_cpu
          c.image.invariant.starting c.index.ensures,
    )
