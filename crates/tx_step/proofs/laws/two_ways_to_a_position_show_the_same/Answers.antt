-- Moves change the position alone.
use Rattle.tx_step.proofs.Moved.{two_ways}
use Rattle.tx_step.proofs.laws.two_ways_to_a_position_show_the_same.Goals as goal

pub returns : goal.returns
returns c = λ t one other same. two_ways t one other same
