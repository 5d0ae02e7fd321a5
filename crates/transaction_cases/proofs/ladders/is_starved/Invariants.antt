use Rattle.std.proofs.Common.{◌≡◌}
use Rattle.transaction_cases.proofs.ladders.is_starved.Given as goal

abbrev pub invariant-loop : goal.invariant-loop
invariant-loop l = l.ladder.parms ≡ l.fn.ladder.parms
