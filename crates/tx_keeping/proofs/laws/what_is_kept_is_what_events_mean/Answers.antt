use Rattle.tx_keeping.proofs.Truth.{true_to}
use Rattle.tx_keeping.proofs.Events.{keeping_is, happens_alike, keeping_good}
use Rattle.tx_keeping.proofs.laws.what_is_kept_is_what_events_mean.Goals as goal

pub returns-clause-state : goal.returns-clause-state
returns-clause-state c = λ m events s known. keeping_is m s events known

pub returns-clause-event : goal.returns-clause-event
returns-clause-event c = λ m events e s known within. happens_alike m s events e known within

pub returns-clause-kept : goal.returns-clause-kept
returns-clause-kept c = λ m events s known. true_to m _ (keeping_good m s events known).truth
