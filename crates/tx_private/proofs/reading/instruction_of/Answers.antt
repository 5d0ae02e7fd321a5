use Rattle.std.proofs.Common.{sym}
use Rattle.z_instr.proofs.ComputedReading.{computes, none}
use Rattle.tx_private.proofs.reading.instruction_of.Goals as goal

pub returns-in-Ok : goal.returns-in-Ok
returns-in-Ok c = sym (computes _ c.in-Ok.instr (c.in-Ok.ensures).found)

pub returns-in-Err : goal.returns-in-Err
returns-in-Err c = sym ((none _).1 (c.in-Err.ensures).none)
