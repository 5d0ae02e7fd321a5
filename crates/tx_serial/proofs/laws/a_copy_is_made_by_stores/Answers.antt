use Rattle.tx_serial.proofs.Copies.{run_copy, run_lasting}
use Rattle.tx_serial.proofs.laws.a_copy_is_made_by_stores.Goals as goal

pub returns-clause-copy : goal.returns-clause-copy
returns-clause-copy c = λ f i k. run_copy f i k

pub returns-clause-lasting : goal.returns-clause-lasting
returns-clause-lasting c = λ f i k test h. run_lasting test f i k h
