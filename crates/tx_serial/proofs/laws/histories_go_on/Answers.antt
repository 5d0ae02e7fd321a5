use Rattle.tx_serial.proofs.Entries.{replay_twice, replay_none}
use Rattle.tx_serial.proofs.laws.histories_go_on.Goals as goal

pub returns-clause-parts : goal.returns-clause-parts
returns-clause-parts c = λ first rest state. replay_twice first rest state

pub returns-clause-none : goal.returns-clause-none
returns-clause-none c = λ rest. replay_none rest
