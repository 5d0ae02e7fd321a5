use Rattle.tx_journal.proofs.ToldEntries.{spelled, read_exactly, told_apart}
use Rattle.tx_journal.proofs.laws.entries_read_back.Goals as goal

pub returns-clause-there : goal.returns-clause-there
returns-clause-there c = spelled

pub returns-clause-exact : goal.returns-clause-exact
returns-clause-exact c = read_exactly

pub returns-clause-distinct : goal.returns-clause-distinct
returns-clause-distinct c = told_apart
