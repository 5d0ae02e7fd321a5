-- The ranges so far are by absolute addresses.
use Rattle.std.proofs.Common.{◌≡◌, take}
use Rattle.z_regs.specs.Absolute.{absolute_ranges}
use Rattle.z_regs.proofs.ranges.Touches.absolute.Given as goal

abbrev pub invariant-loop-i : goal.invariant-loop-i
invariant-loop-i l = l.all ≡ absolute_ranges l.prefix (take l.i l.self)
