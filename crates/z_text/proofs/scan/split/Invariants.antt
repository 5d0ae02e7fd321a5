use Rattle.std.proofs.Common.{◌-◌}
use Rattle.z_text.proofs.Pieces.{Scans}
use Rattle.z_text.proofs.scan.split.Given as goal

abbrev pub invariant-loop-at : goal.invariant-loop-at
invariant-loop-at l = Scans l.line l.fn.tokens.items l.tokens.items l.first l.at l.end

abbrev pub decreases-loop-at : goal.decreases-loop-at
decreases-loop-at l = l.end - l.at
