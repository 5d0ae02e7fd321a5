use Rattle.std.proofs.Common.{◌≡◌}
use Rattle.transaction_cases.proofs.ladders.is_right.Given as goal

abbrev pub invariant-loop-given : goal.invariant-loop-given
invariant-loop-given l = l.ladder.parms ≡ l.fn.parms
