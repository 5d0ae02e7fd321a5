use Rattle.std.proofs.Common.{◌≡◌, take, length}
use Rattle.z_regs.specs.Prefix.{storage_size}
use Rattle.tx_serial.specs.Flat.{with_bytes_at}
use Rattle.tx_private.specs.Bytes.{function_of}
use Rattle.tx_private.proofs.storing.store_bytes.Given as goal

abbrev pub invariant-loop-k : goal.invariant-loop-k
invariant-loop-k l = record {
  stored : function_of l.storage ≡ with_bytes_at l.prefix l.address (take l.k l.bytes) (function_of
      l.initial.storage);
  size : length l.storage ≡ storage_size;
}
