-- Each reject is counted once, with its asker.
use Rattle.tx_heat.proofs.Rejects.{all_rejects}
use Rattle.tx_heat.proofs.laws.rejects_are_those_that_the_cpus_count.Goals as goal

pub returns : goal.returns
returns c = λ m events known. all_rejects m events known
