-- The tests on all ranges, one after the other.
use Rattle.std.proofs.Common.{sym, ◌∙◌, true, false}
use Rattle.z_touch.proofs.Reach.{beyond, inside}
use Rattle.z_touch.proofs.pages.forbidden.Goals as goal

pub returns-then-not-are_inside : goal.returns-then-not-are_inside
returns-then-not-are_inside c =
    sym (beyond c.args.ranges.now _ _ c.args.after (sym c.are_inside.ensures ∙ c.if-not-are_inside.true))

pub returns-then-is_one_protected : goal.returns-then-is_one_protected
returns-then-is_one_protected c =
    sym (inside c.args.ranges.now _ _ c.args.after true
    (sym c.are_inside.ensures ∙ c.if-not-are_inside.false)
    (sym c.is_one_protected.ensures ∙ c.if-is_one_protected.true))

pub returns-else-is_one_protected : goal.returns-else-is_one_protected
returns-else-is_one_protected c =
    sym (inside c.args.ranges.now _ _ c.args.after false
    (sym c.are_inside.ensures ∙ c.if-not-are_inside.false)
    (sym c.is_one_protected.ensures ∙ c.if-is_one_protected.false))
