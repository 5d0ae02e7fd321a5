use Rattle.z_regs.specs.Prefix.{storage_size}
use Rattle.tx_meaning.specs.State.{flat_of}
use Rattle.tx_serial.proofs.Listed.{length-bytes_below}
use Rattle.tx_step.specs.Traces.{setting_in, state_at}
use Rattle.step_text.proofs.replying.add_bytes.Goals as goal

pub add_bytes_text-requires-clause-size : goal.add_bytes_text-requires-clause-size
add_bytes_text-requires-clause-size c =
    let t = c.args.trace.now in
    length-bytes_below storage_size (flat_of (setting_in t) (state_at t)).storage
