use Rattle.store_cache.proofs.Overlays.{lasting_bytes-with_one}
use Rattle.store_cache.proofs.laws.the_last_value_lasts.Goals as goal

pub returns : goal.returns
returns c = lasting_bytes-with_one
