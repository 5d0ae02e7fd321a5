use Rattle.tx_keeping.proofs.Events.{touched_held, held_so}
use Rattle.tx_keeping.proofs.laws.what_live_attempts_touch_is_held.Goals as goal

pub returns-clause-meant : goal.returns-clause-meant
returns-clause-meant c = λ m events s known. touched_held m s events known

pub returns-clause-kept : goal.returns-clause-kept
returns-clause-kept c = λ m events s known. held_so m s events known
