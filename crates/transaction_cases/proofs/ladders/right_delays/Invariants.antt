use Rattle.std.proofs.Common.{◌≡◌}
use Rattle.transaction_cases.proofs.ladders.right_delays.Given as goal

abbrev pub invariant-loop-turns : goal.invariant-loop-turns
invariant-loop-turns l = l.ladder.parms ≡ l.fn.parms
