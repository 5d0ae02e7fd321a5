-- The first bytes are fetched.
use Rattle.std.proofs.Common.{◌≡◌, take}
use Rattle.tx_serial.specs.Flat.{bytes_seen}
use Rattle.tx_attempt.specs.Storages.{storage_of}
use Rattle.tx_attempt.proofs.storing.get_all.Given as goal

abbrev pub invariant-loop-k : goal.invariant-loop-k
invariant-loop-k g l =
    take l.k l.bytes ≡ bytes_seen l.prefix (storage_of (g.V.Bytes.bytes l.base)) l.first l.k
