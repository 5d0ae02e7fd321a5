use Rattle.tx_headline.proofs.Recorded.{recorded_mean}
use Rattle.tx_headline.proofs.laws.recorded_events_mean_the_same.Goals as goal

pub returns : goal.returns
returns c = λ m events. recorded_mean m events
