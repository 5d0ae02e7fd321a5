-- Prefixes by the lines that are read again.
use Rattle.statement_laws.proofs.Lines.{prefixes_hold}
use Rattle.statement_laws.proofs.laws.prefixes_are_those_of_lines.Goals as goal

pub returns : goal.returns
returns c = prefixes_hold
