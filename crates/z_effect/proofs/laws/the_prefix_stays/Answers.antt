-- What is proved of the prefix.
use Rattle.z_effect.proofs.Prefix.{keeps_prefix}
use Rattle.z_effect.proofs.laws.the_prefix_stays.Goals as goal

pub returns : goal.returns
returns c = keeps_prefix
