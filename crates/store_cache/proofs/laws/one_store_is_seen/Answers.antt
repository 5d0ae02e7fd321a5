use Rattle.store_cache.proofs.Overlays.{length-bytes_through, get_or-bytes_through, bytes_through-with_one}
use Rattle.store_cache.proofs.laws.one_store_is_seen.Goals as goal

pub returns-clause-size : goal.returns-clause-size
returns-clause-size c = length-bytes_through

pub returns-clause-byte : goal.returns-clause-byte
returns-clause-byte c = get_or-bytes_through

pub returns-clause-one_more : goal.returns-clause-one_more
returns-clause-one_more c = bytes_through-with_one
