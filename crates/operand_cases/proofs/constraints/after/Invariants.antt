use Rattle.std.proofs.Common.{◌≡◌, []}
use Rattle.operand_cases.proofs.constraints.after.Given as goal

-- so many instructions were added, without operands
abbrev pub invariant-loop-done : goal.invariant-loop-done
invariant-loop-done l = (l.constraint.count ≡ l.done) × (l.constraint.octowords ≡ [])
