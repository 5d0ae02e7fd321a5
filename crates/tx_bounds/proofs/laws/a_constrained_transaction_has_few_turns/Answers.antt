use Rattle.tx_bounds.proofs.Stretched.{ages_within, ages_below, ages_usual, closes_at_an_end}
use Rattle.tx_bounds.proofs.laws.a_constrained_transaction_has_few_turns.Goals as goal

pub returns-clause-within : goal.returns-clause-within
returns-clause-within c = λ m events i s known is. ages_within m events i s known is

pub returns-clause-uninterrupted : goal.returns-clause-uninterrupted
returns-clause-uninterrupted c = λ m events i s known is none. ages_below m events i s known is none

pub returns-clause-usual : goal.returns-clause-usual
returns-clause-usual c = λ m events i s known numbers is none. ages_usual m events i s known numbers is none

pub returns-clause-ended : goal.returns-clause-ended
returns-clause-ended c = λ m events e i is shut. closes_at_an_end m events e i is shut
