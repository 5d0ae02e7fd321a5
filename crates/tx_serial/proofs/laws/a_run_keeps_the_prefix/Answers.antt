use Rattle.tx_serial.proofs.Copies.{run_prefix}
use Rattle.tx_serial.proofs.laws.a_run_keeps_the_prefix.Goals as goal

pub returns : goal.returns
returns c = λ f i k. run_prefix f i k
