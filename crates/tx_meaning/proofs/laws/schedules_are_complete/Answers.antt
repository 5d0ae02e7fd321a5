use Rattle.tx_meaning.proofs.Schedules.{drawn_leads, drawn_complete, round_leads, round_complete}
use Rattle.tx_meaning.proofs.laws.schedules_are_complete.Goals as goal

pub returns-clause-drawn : goal.returns-clause-drawn
returns-clause-drawn c = λ m seed. drawn_leads m seed

pub returns-clause-drawn_to_the_end : goal.returns-clause-drawn_to_the_end
returns-clause-drawn_to_the_end c = λ m seed. drawn_complete m seed

pub returns-clause-round : goal.returns-clause-round
returns-clause-round c = λ m. round_leads m

pub returns-clause-round_to_the_end : goal.returns-clause-round_to_the_end
returns-clause-round_to_the_end c = λ m. round_complete m
