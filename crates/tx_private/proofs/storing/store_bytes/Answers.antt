use Rattle.std.proofs.Common.{sym}
use Rattle.tx_private.specs.Bytes.{function_of}
use Rattle.tx_private.proofs.Laid.{store_step}
use Rattle.tx_serial.proofs.StoredBytes.{with_none}
use Rattle.tx_private.proofs.storing.store_bytes.Goals as goal

pub loop-k-init : goal.loop-k-init
loop-k-init c = record {
  stored = sym (with_none c.args.prefix c.args.address (function_of c.args.storage.now));
  size = c.requires.size;
}

pub loop-k-preserved : goal.loop-k-preserved
loop-k-preserved c = record {
  stored = store_step c.args.prefix c.args.address c.loop-k.k c.args.bytes.now c.args.storage.now
      c.loop-k.storage
      c.store_byte.new.storage c.loop-k-test.true c.loop-k.invariant.stored c.store_byte.ensures.stored;
  size = c.store_byte.ensures.size;
}
