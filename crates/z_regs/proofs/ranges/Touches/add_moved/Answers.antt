-- One range in an area, and two across its end.
use Rattle.std.proofs.Common.{arith}
use Rattle.std.proofs.lemmas.Grind.{common_steps}
use Rattle.z_regs.proofs.MovedBytes.{one_area, two_areas}
use Rattle.z_regs.proofs.ranges.Touches.add_moved.Goals as goal

pub returns-then-length-here : goal.returns-then-length-here
returns-then-length-here c =
    let one = one_area c.args.own c.args.range (omega arith) in
    rw one (cc)

pub returns : goal.returns
returns c =
    let two = two_areas c.args.own c.args.range (omega arith) in
    rw two (grind (arith, common_steps))
