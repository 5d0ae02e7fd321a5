use Rattle.std.proofs.Common.{sym, ◌∙◌}
use Rattle.z_regs.proofs.Elements.{list_any_passed, list_any_longer}
use Rattle.z_touch.proofs.pages.is_one_protected.Goals as goal

pub returns-then-is_range_protected : goal.returns-then-is_range_protected
returns-then-is_range_protected c =
    sym (list_any_passed _ c.args.ranges.now c.loop-i.i c.at.result c.at.ensures
    (sym c.is_range_protected.ensures ∙ c.if-is_range_protected.true))

pub loop-i-preserved : goal.loop-i-preserved
loop-i-preserved c =
    list_any_longer _ c.args.ranges.now c.loop-i.i c.at.result c.at.ensures c.loop-i.invariant
    (sym c.is_range_protected.ensures ∙ c.if-is_range_protected.false)
