use Rattle.tx_bounds.proofs.Potential.{left_first, left_executed, left_rejected, left_delayed}
use Rattle.tx_bounds.proofs.Potential.{left_climbed, left_joined, left_interrupted}
use Rattle.tx_bounds.proofs.laws.what_is_left_goes_down_the_ladder.Goals as goal

pub returns-clause-begun : goal.returns-clause-begun
returns-clause-begun c = λ p some. left_first p some

pub returns-clause-executed : goal.returns-clause-executed
returns-clause-executed c = λ p a d n r few less. left_executed p a d n r few less

pub returns-clause-rejected : goal.returns-clause-rejected
returns-clause-rejected c = λ p a d n r below few less. left_rejected p a d n r below few less

pub returns-clause-delayed : goal.returns-clause-delayed
returns-clause-delayed c = λ p a d n r below. left_delayed p a d n r below

pub returns-clause-climbed : goal.returns-clause-climbed
returns-clause-climbed c = λ p a n r below few less. left_climbed p a n r below few less

pub returns-clause-joined : goal.returns-clause-joined
returns-clause-joined c = λ p a n r full few less. left_joined p a n r full few less

pub returns-clause-outside : goal.returns-clause-outside
returns-clause-outside c = λ p a n r few less. left_interrupted p a n r few less
