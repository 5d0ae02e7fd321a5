use Rattle.tx_bounds.proofs.Heads.{queue_is_open, heads_few, heads_in_all}
use Rattle.tx_bounds.proofs.laws.the_head_of_the_queue_has_few_turns.Goals as goal

pub returns-clause-open_stretch : goal.returns-clause-open_stretch
returns-clause-open_stretch c = λ m events i s known waits. queue_is_open m s i events known waits

pub returns-clause-few : goal.returns-clause-few
returns-clause-few c = λ m events i s known. heads_few m s i events known

pub returns-clause-in_all : goal.returns-clause-in_all
returns-clause-in_all c = λ m events e i s known. heads_in_all m s i events e known
