use Rattle.std.proofs.Common.{◌≡◌}
use Rattle.tx_ladder.specs.Parameters.{usual}
use Rattle.conflict_cases.proofs.answers.ladder_of.Given as goal

-- the ladder climbs by the usual numbers
abbrev pub invariant-loop : goal.invariant-loop
invariant-loop l = l.ladder.parms ≡ usual

abbrev pub invariant-loop-2 : goal.invariant-loop-2
invariant-loop-2 l = l.ladder.parms ≡ usual
