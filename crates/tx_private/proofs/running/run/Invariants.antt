use Rattle.std.proofs.Common.{◌≡◌}
use Rattle.std.specs.FinSet.{items}
use Rattle.z_regs.specs.Cpu.{cpu_of}
use Rattle.tx_private.specs.Shows.{IsRunOf}
use Rattle.tx_private.proofs.running.run.Given as goal

abbrev pub invariant-loop-k : goal.invariant-loop-k
invariant-loop-k l = record {
  run : IsRunOf l.storage (items l.guard) (cpu_of l.image) l._k l.a;
  turned : l.a.turned ≡ l.image.prefix;
}
