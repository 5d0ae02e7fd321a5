use Rattle.store_cache.proofs.Overlays.{stored_in-bytes_through}
use Rattle.store_cache.proofs.laws.lays_stores_in_program_order.Goals as goal

pub returns : goal.returns
returns c = stored_in-bytes_through
