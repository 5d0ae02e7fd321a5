use Rattle.z_instr.proofs.Distinct.{one_name, one_row}
use Rattle.z_instr.proofs.laws.rows_are_distinct.Goals as goal

pub returns-clause-names : goal.returns-clause-names
returns-clause-names c = one_name

pub returns-clause-opcodes : goal.returns-clause-opcodes
returns-clause-opcodes c = one_row
