use Rattle.tx_progress.proofs.Facts.{constrained_so, keeps_constraints}
use Rattle.tx_progress.proofs.laws.a_constrained_attempt_keeps_to_its_constraints.Goals as goal

pub returns-clause-some : goal.returns-clause-some
returns-clause-some c = λ f i local is. constrained_so f i local is

pub returns-clause-keeps : goal.returns-clause-keeps
returns-clause-keeps c = λ f i local is h. keeps_constraints f i local is h
