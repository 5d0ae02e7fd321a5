use Rattle.tx_constraint.proofs.Whole.{members, once, ascends, same_octowords}
use Rattle.tx_constraint.proofs.laws.octowords_are_counted_once.Goals as goal

pub returns-clause-members : goal.returns-clause-members
returns-clause-members c = members

pub returns-clause-once : goal.returns-clause-once
returns-clause-once c = once

pub returns-clause-ascending : goal.returns-clause-ascending
returns-clause-ascending c = ascends

pub returns-clause-same : goal.returns-clause-same
returns-clause-same c = same_octowords
