use Rattle.tx_lending.proofs.Strangers.{stranger_makes, stranger_goes}
use Rattle.tx_lending.proofs.Waiting.{waits_so}
use Rattle.tx_lending.proofs.laws.a_cpu_that_goes_on_alike_makes_the_same_turns.Goals as goal

pub returns-clause-makes : goal.returns-clause-makes
returns-clause-makes c = λ text held k local own s t like live away h.
    stranger_makes text held local own s t like live k away h

pub returns-clause-away : goal.returns-clause-away
returns-clause-away c = λ text held k local own s t like live away h.
    stranger_goes text held local own s t like live k away h

pub returns-clause-waits : goal.returns-clause-waits
returns-clause-waits c = λ text held k a b live away. waits_so text held k b a live away
