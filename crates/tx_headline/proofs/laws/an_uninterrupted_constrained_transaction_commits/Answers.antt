use Rattle.tx_headline.proofs.Bounds.{commits_usually}
use Rattle.tx_headline.proofs.Commits.{commits}
use Rattle.tx_headline.proofs.laws.an_uninterrupted_constrained_transaction_commits.Goals as goal

pub returns-clause-commits : goal.returns-clause-commits
returns-clause-commits c = λ m before since e i s known opens quiet none enough.
    commits m s i before since e known opens quiet enough none

pub returns-clause-usually : goal.returns-clause-usually
returns-clause-usually c = λ m before since e i s known parms opens quiet none enough.
    commits_usually m before since e i s known parms opens quiet none enough
