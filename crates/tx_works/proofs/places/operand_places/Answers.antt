-- Accessible operands are small and lie in storage.
use Rattle.std.proofs.Common.{◌≤◌, ◌+◌, sym, subst, List}
use Rattle.std.specs.Prelude.{All}
use Rattle.z_regs.specs.Prefix.{storage_size}
use Rattle.z_regs.specs.declared.ranges.Range.{Range}
use Rattle.tx_needs.proofs.SmallPlaces.{ranges-small, ranges-inside, accessible-places}
use Rattle.tx_works.proofs.places.operand_places.Goals as goal

pub returns-clause-small : goal.returns-clause-small
returns-clause-small c =
    subst (λ (rs : List Range). All (λ (r : Range). r.length ≤ 256) rs) (sym c.absolute.ensures)
    (ranges-small c.args.prefix c.args.need.now c.requires.prefix_in
    (accessible-places c.args.prefix c.args.need.now c.requires.accessible))

pub returns-clause-in_storage : goal.returns-clause-in_storage
returns-clause-in_storage c =
    subst (λ (rs : List Range). All (λ (r : Range). r.first + r.length ≤ storage_size) rs)
    (sym c.absolute.ensures)
    (ranges-inside c.args.prefix c.args.need.now c.requires.prefix_in
    (accessible-places c.args.prefix c.args.need.now c.requires.accessible))
