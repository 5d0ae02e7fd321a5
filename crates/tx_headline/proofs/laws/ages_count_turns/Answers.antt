use Rattle.tx_headline.proofs.Ages.{opening, going_on}
use Rattle.tx_headline.proofs.laws.ages_count_turns.Goals as goal

pub returns-clause-opened : goal.returns-clause-opened
returns-clause-opened c = λ m s e i stretch shut is. opening m s e i stretch is shut

pub returns-clause-longer : goal.returns-clause-longer
returns-clause-longer c = λ m s e i stretch was is. going_on m s e i stretch is was
