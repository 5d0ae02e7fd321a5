use Rattle.tx_bounds.proofs.Stretched.{under_way}
use Rattle.tx_bounds.proofs.laws.an_open_stretch_is_a_transaction_under_way.Goals as goal

pub returns : goal.returns
returns c = λ m events i s known is. under_way m events i s known is
