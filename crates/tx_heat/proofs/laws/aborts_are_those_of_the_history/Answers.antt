-- Each entry of an abort is one conflict.
use Rattle.tx_heat.proofs.Totals.{all_aborts}
use Rattle.tx_heat.proofs.laws.aborts_are_those_of_the_history.Goals as goal

pub returns : goal.returns
returns c = λ m events s known. all_aborts m events s known
