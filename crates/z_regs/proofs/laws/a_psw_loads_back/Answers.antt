-- What is proved of program status words.
use Rattle.z_regs.proofs.Words.{loaded_back}
use Rattle.z_regs.proofs.laws.a_psw_loads_back.Goals as goal

pub returns : goal.returns
returns c = loaded_back
