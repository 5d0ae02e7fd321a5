use Rattle.std.proofs.Common.{rules}
use Rattle.z_list.proofs.Distances.{immediate_is_close}
use Rattle.z_list.proofs.parts.operand_at.Goals as goal

pub bytes_in-requires : goal.bytes_in-requires
bytes_in-requires c = search (rules, immediate_is_close c.args.instr.now)
