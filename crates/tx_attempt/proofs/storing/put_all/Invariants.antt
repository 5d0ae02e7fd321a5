-- The first bytes are stored.
use Rattle.std.proofs.Common.{◌≡◌, take, length}
use Rattle.z_regs.specs.Prefix.{storage_size}
use Rattle.tx_serial.specs.Flat.{with_bytes_at}
use Rattle.tx_attempt.specs.Storages.{storage_of}
use Rattle.tx_attempt.proofs.storing.put_all.Given as goal

abbrev pub invariant-loop-k : goal.invariant-loop-k
invariant-loop-k g l =
    record {
      value : storage_of (g.V.Bytes.bytes l.base) ≡ with_bytes_at l.prefix l.first (take l.k l.bytes)
          (storage_of (g.V.Bytes.bytes l.initial.base));
      size : length (g.V.Bytes.bytes l.base) ≡ storage_size;
    }
