use Rattle.tx_bounds.proofs.Again.{goes_again}
use Rattle.tx_bounds.proofs.laws.a_constrained_begin_goes_again.Goals as goal

pub returns : goal.returns
returns c = λ text s t c d i ranges is prefix address agree goes.
    goes_again text s t c d i ranges is prefix address agree goes
