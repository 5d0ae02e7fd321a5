use Rattle.z_instr.specs.Table.{entry_at}
use Rattle.z_instr.proofs.SmallOperands.{count, sizes}
use Rattle.z_instr.proofs.laws.operands_are_small.Goals as goal

pub returns-clause-count : goal.returns-clause-count
returns-clause-count c i general code = count (entry_at i.op.number).operands i general code

pub returns-clause-size : goal.returns-clause-size
returns-clause-size c i general code = sizes (entry_at i.op.number).operands i general code
