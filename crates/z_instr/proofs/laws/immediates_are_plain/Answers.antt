use Rattle.z_instr.proofs.PlainImmediates.{lists, services, begins}
use Rattle.z_instr.proofs.laws.immediates_are_plain.Goals as goal

pub returns-clause-lists : goal.returns-clause-lists
returns-clause-lists c = lists

pub returns-clause-services : goal.returns-clause-services
returns-clause-services c = services

pub returns-clause-begins : goal.returns-clause-begins
returns-clause-begins c = begins
