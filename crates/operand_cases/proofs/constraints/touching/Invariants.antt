use Rattle.std.proofs.Common.{◌≤◌}
use Rattle.operand_cases.proofs.constraints.touching.Given as goal

abbrev pub invariant-loop-k : goal.invariant-loop-k
invariant-loop-k l = l.constraint.count ≤ l.k
