use Rattle.tx_meaning.proofs.IdleTurns.{outcome_tells}
use Rattle.tx_meaning.proofs.laws.an_outcome_says_whether_the_cpu_was_ready.Goals as goal

pub returns : goal.returns
returns c = λ m s i. outcome_tells m s i
