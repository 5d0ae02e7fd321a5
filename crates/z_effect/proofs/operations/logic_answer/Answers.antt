use Rattle.std.proofs.Common.{arith}
use Rattle.z_arith.specs.Whole.{bits}
use Rattle.z_effect.proofs.operations.logic_answer.Goals as goal

pub returns-clause-fits : goal.returns-clause-fits
returns-clause-fits c =
    grind (arith, c.logic-value.ensures.fits (bits c.args.w) c.requires.a_in c.requires.b_in)
