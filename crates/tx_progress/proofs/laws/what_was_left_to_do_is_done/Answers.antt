use Rattle.tx_progress.proofs.Leaving.{block_leaves, interruption_leaves}
use Rattle.tx_progress.proofs.laws.what_was_left_to_do_is_done.Goals as goal

pub returns-clause-block : goal.returns-clause-block
returns-clause-block c = λ text storage locals i b is e. block_leaves text storage locals i b is e

pub returns-clause-interruption : goal.returns-clause-interruption
returns-clause-interruption c = λ text storage locals i w n e. interruption_leaves text storage locals i w n e
