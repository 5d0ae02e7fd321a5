-- Operands that pass the tests of addressing are accessible.
use Rattle.std.specs.FinSet.{items}
use Rattle.z_regs.specs.Cpu.{cpu_of}
use Rattle.tx_cpu.proofs.Tests.{accessible-need}
use Rattle.tx_cpu.proofs.plan.permitted.Goals as goal

pub admit_touches-requires-clause-accessible : goal.admit_touches-requires-clause-accessible
admit_touches-requires-clause-accessible c =
    accessible-need (items c.args.guard.now) c.args.instr.now (cpu_of c.args.image.now) c.depth.result
    c.args.need.now c.in_default.field-0 c.requires.need c.in_default.ensures
