use Rattle.tx_meaning.proofs.Books.{unready_stays}
use Rattle.tx_meaning.proofs.laws.an_idle_turn_changes_nothing.Goals as goal

pub returns : goal.returns
returns c = λ m s i idle. unready_stays m s i idle
