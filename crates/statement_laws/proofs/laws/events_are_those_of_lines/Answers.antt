-- Events of lines by those that are read again.
use Rattle.statement_laws.proofs.Lines.{events_hold}
use Rattle.statement_laws.proofs.laws.events_are_those_of_lines.Goals as goal

pub returns : goal.returns
returns c = events_hold
