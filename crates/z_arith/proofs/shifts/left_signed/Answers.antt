use Rattle.z_arith.proofs.ShiftLemmas.{left_is}
use Rattle.z_arith.proofs.shifts.left_signed.Goals as goal

pub returns-clause-value : goal.returns-clause-value
returns-clause-value c =
    left_is c.args.w c.args.value c.args.amount c.kept.result c.loses.result c.settled.result
    c.requires.value_in
    c.kept.ensures.value c.loses.ensures c.settled.ensures.value c.settled.ensures.condition
    c.settled.ensures.overflow
