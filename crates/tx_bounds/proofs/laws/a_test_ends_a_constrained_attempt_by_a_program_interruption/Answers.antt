use Rattle.tx_bounds.proofs.OwnEnds.{ends_by_program, parted, ends_the_transaction}
use Rattle.tx_bounds.proofs.laws.a_test_ends_a_constrained_attempt_by_a_program_interruption.Goals as goal

pub returns-clause-causes : goal.returns-clause-causes
returns-clause-causes c = λ f i local why is kind h. parted why (ends_by_program f i local why is kind h)

pub returns-clause-ends : goal.returns-clause-ends
returns-clause-ends c = λ f i local why is ok kind h. ends_the_transaction f i local why is ok kind h
