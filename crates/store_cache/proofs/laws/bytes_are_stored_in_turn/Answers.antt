use Rattle.store_cache.proofs.Overlays.{with_bytes-none, with_bytes-more}
use Rattle.store_cache.proofs.laws.bytes_are_stored_in_turn.Goals as goal

pub returns-clause-none : goal.returns-clause-none
returns-clause-none c = with_bytes-none

pub returns-clause-one_more : goal.returns-clause-one_more
returns-clause-one_more c = with_bytes-more
