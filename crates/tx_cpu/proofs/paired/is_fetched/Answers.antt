-- All bytes lie in one text page, behind the first area.
use Rattle.std.proofs.Common.{◌/◌, sym, ◌∙◌}
use Rattle.std.specs.FinSet.{items}
use Rattle.z_touch.proofs.SmallRanges.{any-items}
use Rattle.tx_cpu.proofs.TwoBlocks.{fetched-there}
use Rattle.tx_cpu.proofs.paired.is_fetched.Goals as goal

pub returns : goal.returns
returns c n so some few =
    let a = c.args.address in
    let usable = c.is_usable.ensures in
    let yes = c.if-not-is_usable.false in
    fetched-there (items c.args.guard.now) a n some few (usable.low yes) (usable.ends yes) c.if-address-eq1.false
    c.if-address.false (any-items c.args.guard.now (a / 4096) ∙ sym c.has.ensures.there ∙ so)
