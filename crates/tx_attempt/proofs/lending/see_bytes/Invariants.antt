-- The first bytes are seen.
use Rattle.std.proofs.Common.{◌≡◌, take}
use Rattle.store_cache.specs.Entries.{stores_of}
use Rattle.tx_serial.specs.Flat.{bytes_seen}
use Rattle.tx_progress.specs.Progress.{seen_through}
use Rattle.tx_attempt.specs.Storages.{storage_of}
use Rattle.tx_attempt.proofs.lending.see_bytes.Given as goal

abbrev pub invariant-loop-k : goal.invariant-loop-k
invariant-loop-k g l =
    take l.k l.bytes ≡ bytes_seen l.prefix (seen_through (stores_of l.attempt.stores).overlay
    (storage_of (g.V.Bytes.bytes l.base))) l.first l.k
