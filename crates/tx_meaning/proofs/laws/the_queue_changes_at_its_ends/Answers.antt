use Rattle.tx_meaning.proofs.Queues.{queue_moves, only_the_head}
use Rattle.tx_meaning.proofs.laws.the_queue_changes_at_its_ends.Goals as goal

pub returns-clause-event : goal.returns-clause-event
returns-clause-event c = λ m s e. queue_moves m e s

pub returns-clause-head : goal.returns-clause-head
returns-clause-head c = λ m s i head rest e other. only_the_head m s i head rest e other
