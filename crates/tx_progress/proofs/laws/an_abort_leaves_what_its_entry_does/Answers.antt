use Rattle.tx_progress.proofs.Leaving.{abort_leaves}
use Rattle.tx_progress.proofs.Endings.{refused_leaves}
use Rattle.tx_progress.proofs.laws.an_abort_leaves_what_its_entry_does.Goals as goal

pub returns-clause-fitting : goal.returns-clause-fitting
returns-clause-fitting c = λ text storage locals i why is live fit. abort_leaves text storage locals i why is
    live fit

pub returns-clause-refused : goal.returns-clause-refused
returns-clause-refused c = λ text storage locals i why is live h. refused_leaves text storage locals i why is
    live h
