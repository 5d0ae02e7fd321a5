use Rattle.tx_lending.proofs.Along.{makes, go_too}
use Rattle.tx_lending.proofs.laws.lent_turns_depend_on_what_they_touch.Goals as goal

pub returns-clause-makes : goal.returns-clause-makes
returns-clause-makes c = λ text held k local s t clear away h. makes text held k local s t clear away h

pub returns-clause-away : goal.returns-clause-away
returns-clause-away c = λ text held k local s t clear away h. go_too text held k local s t clear away h
