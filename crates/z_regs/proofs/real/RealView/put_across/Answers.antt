use Rattle.std.proofs.Common.{arith, ◌∙◌}
use Rattle.z_regs.proofs.Exchange.{length-seen}
use Rattle.z_regs.proofs.Writes.{write_step}
use Rattle.z_regs.proofs.real.RealView.put_across.Goals as goal

pub loop-k-preserved : goal.loop-k-preserved
loop-k-preserved g c =
    let view = c.args.self.now in
    c.put_byte.ensures
    ∙ write_step _ _ c.args.bytes.now c.args.address c.loop-k.k (omega arith)
    (omega (arith, c.requires, length-seen view.prefix _ view.prefix_in view.sized)) c.loop-k.invariant
