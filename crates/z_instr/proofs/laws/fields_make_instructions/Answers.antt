use Rattle.z_instr.proofs.SameInstr.{same_instr}
use Rattle.z_instr.proofs.laws.fields_make_instructions.Goals as goal

pub returns : goal.returns
returns c = same_instr
