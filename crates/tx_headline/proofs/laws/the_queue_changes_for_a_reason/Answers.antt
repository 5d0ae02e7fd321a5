use Rattle.tx_headline.proofs.Bounds.{turns_of_head}
use Rattle.tx_headline.proofs.Queue.{queue_changes, before_most}
use Rattle.tx_headline.proofs.laws.the_queue_changes_for_a_reason.Goals as goal

pub returns-clause-changes : goal.returns-clause-changes
returns-clause-changes c = λ m events e s known. queue_changes m s events e known

pub returns-clause-few : goal.returns-clause-few
returns-clause-few c = λ m events i s known waits. before_most m s events known i waits

pub returns-clause-head : goal.returns-clause-head
returns-clause-head c = λ m s e i is. turns_of_head m s e i is
