use Rattle.std.proofs.Common.{arith}
use Rattle.z_general.proofs.halfwords.combined_halfword.Goals as goal

pub returns-clause-fits : goal.returns-clause-fits
returns-clause-fits c = grind (arith, c.logic.ensures.fits 16)
