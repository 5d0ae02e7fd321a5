use Rattle.tx_private.proofs.Turned.{Refreshed}
use Rattle.tx_private.proofs.copying.refresh_lines.Given as goal

abbrev pub invariant-loop-line : goal.invariant-loop-line
invariant-loop-line l = Refreshed l.prefix l.from l.initial.to l.to l.first l.line
