-- Bytes of lines by those of the two readings.
use Rattle.statement_laws.proofs.Lines.{bytes_placed, bytes_once, others_zero}
use Rattle.statement_laws.proofs.laws.each_byte_is_that_of_one_line.Goals as goal

pub returns-clause-placed : goal.returns-clause-placed
returns-clause-placed c = bytes_placed

pub returns-clause-once : goal.returns-clause-once
returns-clause-once c = bytes_once

pub returns-clause-others : goal.returns-clause-others
returns-clause-others c = others_zero
