use Rattle.z_instr.proofs.TableFacts.{fitting_name, opcode_room, refused_alike}
use Rattle.z_instr.proofs.laws.rows_are_sound.Goals as goal

pub returns-clause-names : goal.returns-clause-names
returns-clause-names c = fitting_name

pub returns-clause-opcodes : goal.returns-clause-opcodes
returns-clause-opcodes c = opcode_room

pub returns-clause-refused : goal.returns-clause-refused
returns-clause-refused c = refused_alike
