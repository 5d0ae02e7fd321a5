-- The first bytes are read.
use Rattle.std.proofs.Common.{◌≡◌, take, length}
use Rattle.store_cache.specs.Entries.{stores_of}
use Rattle.tx_serial.specs.Flat.{bytes_seen}
use Rattle.tx_progress.specs.Progress.{seen_through}
use Rattle.tx_attempt.specs.Storages.{storage_of}
use Rattle.tx_attempt.proofs.attempt.Attempt.text_bytes.Given as goal

abbrev pub invariant-loop-k : goal.invariant-loop-k
invariant-loop-k l =
    record {
      read : take l.k l.bytes ≡ bytes_seen l.prefix
          (seen_through (stores_of l.self.stores).overlay (storage_of l.text)) l.first l.k;
      size : length l.bytes ≡ 6;
    }
