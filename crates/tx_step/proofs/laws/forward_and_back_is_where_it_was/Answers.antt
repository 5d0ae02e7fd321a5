-- The position is where it was.
use Rattle.tx_step.proofs.Moved.{there_and_back}
use Rattle.tx_step.proofs.laws.forward_and_back_is_where_it_was.Goals as goal

pub returns : goal.returns
returns c = λ t n ahead. there_and_back t n ahead
