use Rattle.std.proofs.Common.{◌≡◌}
use Rattle.transaction_cases.proofs.ladders.starve.Given as goal

abbrev pub invariant-loop-n : goal.invariant-loop-n
invariant-loop-n l = l.ladder.parms ≡ l.fn.ladder.parms
