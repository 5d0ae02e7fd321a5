use Rattle.tx_headline.proofs.Reasons.{who_joins, who_leaves}
use Rattle.tx_headline.proofs.laws.who_joins_and_who_leaves.Goals as goal

pub returns-clause-joins : goal.returns-clause-joins
returns-clause-joins c = λ m s e j changes off is. who_joins m s e j changes off is

pub returns-clause-leaves : goal.returns-clause-leaves
returns-clause-leaves c = λ m s e j changes is off. who_leaves m s e j changes is off
