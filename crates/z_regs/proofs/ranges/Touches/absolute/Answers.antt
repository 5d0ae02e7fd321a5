-- There is room, and each range is accessible.
use Rattle.std.proofs.Common.{ℕ, Option, length, take, sym, ap, subst, ◌∙◌, arith}
use Rattle.std.proofs.lemmas.List.{length-take-le}
use Rattle.std.proofs.lemmas.List.Elements.{All-get_or}
use Rattle.std.proofs.lemmas.Option.{get_or_from_slice_get, slice_get_within}
use Rattle.z_regs.specs.Absolute.{IsAccessible, absolute_ranges}
use Rattle.z_regs.proofs.MovedBytes.{few_ranges, ranges_stay}
use Rattle.z_regs.proofs.ranges.Touches.absolute.Goals as goal

pub returns-in_default : goal.returns-in_default
returns-in_default c =
    sym (ap (λ (p : Option ℕ). absolute_ranges p c.args.self.now) c.in_default.is ∙ ranges_stay c.args.self.now
    ∙ sym c.self.view_is)

pub add_absolute-requires-clause-room : goal.add_absolute-requires-clause-room
add_absolute-requires-clause-room c =
    let few = few_ranges c.args.prefix (take c.loop-i.i c.args.self.now) in
    let taken = length-take-le c.loop-i.i c.args.self.now (omega arith) in
    let same = ap length c.loop-i.invariant in
    omega (arith, few, taken, same)

pub add_absolute-requires-clause-accessible : goal.add_absolute-requires-clause-accessible
add_absolute-requires-clause-accessible c =
    let xs = c.args.self.now in
    subst (IsAccessible c.args.prefix)
    (get_or_from_slice_get xs c.loop-i.i c.at.result c.at.result c.at.ensures)
    (All-get_or (IsAccessible c.args.prefix) xs c.loop-i.i c.at.result
    (slice_get_within xs c.loop-i.i c.at.result c.at.ensures) c.requires.accessible)
