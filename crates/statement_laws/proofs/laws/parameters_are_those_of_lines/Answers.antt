-- Parameters by the lines that are read again.
use Rattle.statement_laws.proofs.Lines.{numbers_hold}
use Rattle.statement_laws.proofs.laws.parameters_are_those_of_lines.Goals as goal

pub returns : goal.returns
returns c = numbers_hold
