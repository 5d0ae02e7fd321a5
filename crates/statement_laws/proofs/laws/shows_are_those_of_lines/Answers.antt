-- What is shown by the lines that are read again.
use Rattle.statement_laws.proofs.Lines.{shows_hold}
use Rattle.statement_laws.proofs.laws.shows_are_those_of_lines.Goals as goal

pub returns : goal.returns
returns c = shows_hold
