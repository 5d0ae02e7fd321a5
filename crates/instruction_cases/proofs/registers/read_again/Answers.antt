-- All of storage is seen, whatever was put there.
use Rattle.std.proofs.Common.{arith}
use Rattle.z_regs.proofs.Exchange.{length-seen}
use Rattle.instruction_cases.proofs.registers.read_again.Goals as goal

pub read_into-requires-clause-inside : goal.read_into-requires-clause-inside
read_into-requires-clause-inside c =
    let view = c.put_all.new.self in
    omega (arith, length-seen view.prefix view.below view.prefix_in view.sized)
