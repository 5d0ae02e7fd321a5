use Rattle.z_list.proofs.Told.{one_instruction}
use Rattle.z_list.proofs.laws.operands_tell_instructions.Goals as goal

pub returns : goal.returns
returns c = one_instruction
