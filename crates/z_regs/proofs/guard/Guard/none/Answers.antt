use Rattle.std.proofs.Common.{refl}
use Rattle.z_regs.specs.Pages.{marked_from}
use Rattle.z_regs.proofs.guard.Guard.none.Goals as goal

pub returns : goal.returns
unfolding marked_from
returns c = refl
