-- Without a prefix a range stays as it is.
use Rattle.z_regs.specs.Absolute.{absolute_range}
use Rattle.z_regs.proofs.ranges.Touches.add_absolute.Goals as goal

pub returns-in-None : goal.returns-in-None
unfolding absolute_range
returns-in-None c = rw c.in-None.is c.add.ensures
