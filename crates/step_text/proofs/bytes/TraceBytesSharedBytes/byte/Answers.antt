-- Shared storage has its size, and the byte at an address is that of the table.
use Rattle.std.proofs.Common.{◌∙◌, sym, arith}
use Rattle.z_regs.specs.Prefix.{storage_size}
use Rattle.tx_serial.specs.Flat.{Storage}
use Rattle.tx_serial.proofs.Listed.{length-bytes_below, bytes_below_at}
use Rattle.tx_meaning.specs.State.{flat_of}
use Rattle.tx_step.specs.Traces.{Traced, setting_in, state_at}
use Rattle.step_text.proofs.bytes.TraceBytesSharedBytes.byte.Goals as goal

abbrev shared : Traced → Storage
shared t = (flat_of (setting_in t) (state_at t)).storage

pub byte-requires : goal.byte-requires
byte-requires c =
    let size = length-bytes_below storage_size (shared c.args.self.now.trace.now) in
    omega arith

pub returns : goal.returns
returns c =
    let storage = shared c.args.self.now.trace.now in
    let size = length-bytes_below storage_size storage in
    c.byte.ensures ∙ sym (bytes_below_at storage_size storage c.args.address (omega arith))
