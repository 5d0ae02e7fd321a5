use Rattle.std.proofs.lemmas.Nat.{or_lt, xor_lt}
use Rattle.z_effect.proofs.operations.logic.Goals as goal

pub returns-in-Or-clause-fits : goal.returns-in-Or-clause-fits
returns-in-Or-clause-fits c k = or_lt k c.args.a c.args.b

pub returns-in-ExclusiveOr-clause-fits : goal.returns-in-ExclusiveOr-clause-fits
returns-in-ExclusiveOr-clause-fits c k = xor_lt k c.args.a c.args.b
