-- A slot for each CPU so far.
use Rattle.std.proofs.Common.{take, map}
use Rattle.z_regs.specs.Cpu.{cpu_of}
use Rattle.tx_machine.specs.Opened.{AreUnused}
use Rattle.tx_machine.proofs.opening.slots_of.Given as goal

abbrev pub invariant-loop-start : goal.invariant-loop-start
invariant-loop-start l = AreUnused l.parms (map cpu_of (take l.start-index l.cpus)) l.slots.items
