use Rattle.z_instr.specs.Table.{entry_at}
use Rattle.z_instr.proofs.Wholes.{whole, length_at, place_holds}
use Rattle.z_instr.proofs.laws.layouts_are_whole.Goals as goal

pub returns-clause-whole : goal.returns-clause-whole
returns-clause-whole c = whole

pub returns-clause-length : goal.returns-clause-length
returns-clause-length c = length_at

pub returns-clause-opcodes : goal.returns-clause-opcodes
returns-clause-opcodes c n bytes h = place_holds (entry_at n).form bytes
