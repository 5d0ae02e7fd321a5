use Rattle.std.proofs.Common.{subst}
use Rattle.tx_bounds.proofs.Barred.{AbortsNot, permitted_not}
use Rattle.tx_bounds.proofs.laws.a_permitted_instruction_does_not_abort.Goals as goal

pub returns : goal.returns
returns c = λ i cpu depth code bytes permitted e. subst AbortsNot e
    (permitted_not i cpu depth bytes permitted)
