-- The lines before this one are there.
use Rattle.tx_works.proofs.Granted.{IsGetting}
use Rattle.tx_works.proofs.works.Works.get_each.Given as goal

abbrev pub invariant-loop-line : goal.invariant-loop-line
invariant-loop-line l = IsGetting l.cpu l.ranges l.initial.self l.self l.line-index
