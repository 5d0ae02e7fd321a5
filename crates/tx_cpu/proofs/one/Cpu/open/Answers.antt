-- Nothing is kept of a CPU that is opened but the CPU.
use Rattle.z_regs.specs.Cpu.{cpu_of}
use Rattle.tx_cpu.proofs.Settling.{settled-rests}
use Rattle.tx_cpu.proofs.one.Cpu.open.Goals as goal

pub returns : goal.returns
returns c = settled-rests (cpu_of c.args.start) (cpu_of c.args.start) c.in_ok-open.field-0
    c.in_ok-open.ensures
