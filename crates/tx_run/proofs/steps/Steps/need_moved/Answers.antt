-- Accessible operands are small and lie in storage.
use Rattle.std.proofs.Common.{◌≤◌, ◌+◌, sym, subst, List}
use Rattle.std.specs.Prelude.{All}
use Rattle.z_regs.specs.Absolute.{IsAccessible}
use Rattle.z_regs.specs.Prefix.{storage_size}
use Rattle.z_regs.specs.declared.ranges.Range.{Range}
use Rattle.tx_marks.proofs.SmallPlaces.{ranges-small, ranges-inside, accessible-places}
use Rattle.tx_run.proofs.steps.Steps.need_moved.Goals as goal

pub add_all-requires-clause-small : goal.add_all-requires-clause-small
add_all-requires-clause-small c =
    subst (λ (rs : List Range). All (λ (r : Range). r.length ≤ 256) rs) (sym c.absolute-places.ensures)
    (ranges-small c.prefix.result c.args.need.now c.prefix.ensures.prefix_in
    (accessible-places c.prefix.result c.args.need.now
    (subst (λ p. All (IsAccessible p) c.args.need.now)
    (sym c.prefix.ensures.value)
    c.requires.within.accessible)))

pub add_all-requires-clause-in_storage : goal.add_all-requires-clause-in_storage
add_all-requires-clause-in_storage c =
    subst (λ (rs : List Range). All (λ (r : Range). r.first + r.length ≤ storage_size) rs)
    (sym c.absolute-places.ensures)
    (ranges-inside c.prefix.result c.args.need.now c.prefix.ensures.prefix_in
    (accessible-places c.prefix.result c.args.need.now
    (subst (λ p. All (IsAccessible p) c.args.need.now)
    (sym c.prefix.ensures.value)
    c.requires.within.accessible)))
