use Rattle.tx_meaning.specs.Meaning.{meaning}
use Rattle.tx_bounds.proofs.Potential.{some_left}
use Rattle.tx_bounds.proofs.Stretched.{under_way}
use Rattle.tx_bounds.proofs.laws.turns_are_left_to_an_open_stretch.Goals as goal

pub returns : goal.returns
returns c = λ m events i s known is. some_left m (meaning m events) i (under_way m events i s known is)
