use Rattle.std.proofs.Common.{sym, ◌∙◌}
use Rattle.z_regs.proofs.Elements.{list_all_failed, list_all_longer}
use Rattle.z_touch.proofs.pages.are_inside.Goals as goal

pub returns-then-not-is_range_inside : goal.returns-then-not-is_range_inside
returns-then-not-is_range_inside c =
    sym (list_all_failed _ c.args.ranges.now c.loop-i.i c.at.result c.at.ensures
    (sym c.is_range_inside.ensures ∙ c.if-not-is_range_inside.true))

pub loop-i-preserved : goal.loop-i-preserved
loop-i-preserved c =
    list_all_longer _ c.args.ranges.now c.loop-i.i c.at.result c.at.ensures c.loop-i.invariant
    (sym c.is_range_inside.ensures ∙ c.if-not-is_range_inside.false)
