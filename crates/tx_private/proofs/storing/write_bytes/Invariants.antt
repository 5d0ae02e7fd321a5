use Rattle.std.proofs.Common.{◌≡◌, take, length}
use Rattle.z_regs.specs.Prefix.{storage_size}
use Rattle.z_effect.specs.After.{written}
use Rattle.tx_private.proofs.storing.write_bytes.Given as goal

abbrev pub invariant-loop-k : goal.invariant-loop-k
invariant-loop-k l = record {
  stored : l.seen ≡ written l.initial.seen l.address (take l.k l.bytes);
  size : length l.seen ≡ storage_size;
}
