use Rattle.z_instr.proofs.Wholes.{rank_own, taken_whole}
use Rattle.z_instr.proofs.laws.layouts_keep_fields.Goals as goal

pub returns : goal.returns
returns c ds v r h k = taken_whole ds v r h k (rank_own r k)
