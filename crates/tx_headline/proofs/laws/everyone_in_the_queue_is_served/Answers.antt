use Rattle.tx_headline.proofs.Served.{served}
use Rattle.tx_headline.proofs.laws.everyone_in_the_queue_is_served.Goals as goal

pub returns : goal.returns
returns c = λ m events since i s known quiet waits enough. served m s i events since known quiet waits enough
