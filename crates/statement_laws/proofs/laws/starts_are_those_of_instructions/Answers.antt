-- Starts by the marks of the first reading.
use Rattle.statement_laws.proofs.Lines.{starts_hold}
use Rattle.statement_laws.proofs.laws.starts_are_those_of_instructions.Goals as goal

pub returns : goal.returns
returns c = starts_hold
