-- What the tests have found of an instruction that goes.
use Rattle.tx_cpu.proofs.Goes.{goes-so}
use Rattle.tx_cpu.proofs.laws.what_goes_may_be_executed.Goals as goal

pub returns : goal.returns
returns c = goes-so
