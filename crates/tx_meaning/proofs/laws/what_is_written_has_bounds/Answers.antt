use Rattle.tx_meaning.proofs.Books.{turns_counted, few_turns, all_externals}
use Rattle.tx_meaning.proofs.Room.{room}
use Rattle.tx_meaning.proofs.laws.what_is_written_has_bounds.Goals as goal

pub returns-clause-history : goal.returns-clause-history
returns-clause-history c = λ m events known. room m events known

pub returns-clause-counted : goal.returns-clause-counted
returns-clause-counted c = λ m events i. turns_counted m events i

pub returns-clause-turns : goal.returns-clause-turns
returns-clause-turns c = λ m events known. few_turns m events known

pub returns-clause-externals : goal.returns-clause-externals
returns-clause-externals c = λ m events. all_externals m events
