-- Such an instruction has at most a doubleword.
use Rattle.tx_cpu.proofs.About.{size-small}
use Rattle.tx_cpu.proofs.one.Cpu.execute_about.Goals as goal

pub execute_nested-requires-clause-room : goal.execute_nested-requires-clause-room
execute_nested-requires-clause-room g c =
    size-small c.args.instr.now c.args.self.now.image c.args.transaction c.args.need.now
    c.requires.goes.operands_are c.requires.transaction
