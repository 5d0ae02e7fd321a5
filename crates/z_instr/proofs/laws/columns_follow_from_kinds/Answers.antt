use Rattle.z_instr.proofs.TableFacts.{operands_at, demand_at}
use Rattle.z_instr.proofs.laws.columns_follow_from_kinds.Goals as goal

pub returns-clause-operands : goal.returns-clause-operands
returns-clause-operands c = operands_at

pub returns-clause-demands : goal.returns-clause-demands
returns-clause-demands c = demand_at
