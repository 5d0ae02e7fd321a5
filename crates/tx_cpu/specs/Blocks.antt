-- Pending blocks, as code has them.
use Rattle.std.specs.Prelude.{Option, Some, None}
use Rattle.tx_serial.specs.Flat.{Pending}
use Rattle.tx_cpu.specs.declared.pending.Block.{Block}

abbrev pub pending_of : Option Block → Option Pending
pending_of None = None
pending_of (Some b) = Some record { address = b.address; bytes = b.bytes }
