use Rattle.z_instr.proofs.ComputedReading.{computes, reads, none}
use Rattle.z_instr.proofs.laws.reading_computes.Goals as goal

pub returns-clause-there : goal.returns-clause-there
returns-clause-there c = computes

pub returns-clause-reads : goal.returns-clause-reads
returns-clause-reads c = reads

pub returns-clause-none : goal.returns-clause-none
returns-clause-none c = none
