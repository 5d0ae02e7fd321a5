use Rattle.tx_keeping.proofs.Events.{legal, grows_only}
use Rattle.tx_keeping.proofs.laws.the_history_is_legal_and_only_grows.Goals as goal

pub returns-clause-legal : goal.returns-clause-legal
returns-clause-legal c = λ m events s known. legal m s events known

pub returns-clause-grows : goal.returns-clause-grows
returns-clause-grows c = λ m events more s known also. grows_only m s events more known also
