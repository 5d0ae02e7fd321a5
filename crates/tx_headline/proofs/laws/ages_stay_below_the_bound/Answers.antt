use Rattle.tx_headline.proofs.Bounds.{ages_short}
use Rattle.tx_headline.proofs.laws.ages_stay_below_the_bound.Goals as goal

pub returns : goal.returns
returns c = λ m events i s known is. ages_short m events i s known is
