use Rattle.std.proofs.Common.{sym}
use Rattle.tx_constraint.specs.Bytes.{touches_own_page}
use Rattle.z_regs.proofs.Elements.{list_any_passed, list_any_longer}
use Rattle.tx_constraint.proofs.pieces.is_one_near.Goals as goal

pub returns-then-is_near : goal.returns-then-is_near
returns-then-is_near c =
    sym (list_any_passed (touches_own_page c.args.begin) c.args.touches.now c.loop-i.i c.at.result c.at.ensures
    (sym (c.if-is_near.ensures)))

pub loop-i-preserved : goal.loop-i-preserved
loop-i-preserved c =
    list_any_longer (touches_own_page c.args.begin) c.args.touches.now c.loop-i.i c.at.result c.at.ensures c.loop-i.invariant (sym (c.if-is_near.ensures))
