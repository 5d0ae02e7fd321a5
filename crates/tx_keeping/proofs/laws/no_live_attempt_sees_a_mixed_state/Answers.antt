use Rattle.tx_keeping.proofs.Events.{views_kept}
use Rattle.tx_keeping.proofs.laws.no_live_attempt_sees_a_mixed_state.Goals as goal

pub returns : goal.returns
returns c = λ m events e s known within. views_kept m s events e known within
