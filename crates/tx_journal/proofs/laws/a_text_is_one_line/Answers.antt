use Rattle.tx_journal.proofs.OneLine.{same_line, same_fields}
use Rattle.tx_journal.proofs.laws.a_text_is_one_line.Goals as goal

pub returns-clause-line : goal.returns-clause-line
returns-clause-line c = same_line

pub returns-clause-fields : goal.returns-clause-fields
returns-clause-fields c = same_fields
