use Rattle.std.proofs.Common.{◌≡◌, map, replicate}
use Rattle.z_regs.specs.Cpu.{cpu_of, started}
use Rattle.z_assemble.proofs.whole.entering.Given as goal

abbrev pub invariant-loop-cpu : goal.invariant-loop-cpu
invariant-loop-cpu l = map cpu_of l.cpus.items ≡ replicate l.cpu (started 0)
