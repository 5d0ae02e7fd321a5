-- The lines before the place are fair.
use Rattle.std.proofs.Common.{◌-◌, length}
use Rattle.step_words.proofs.LineByLine.{Looked}
use Rattle.step_words.proofs.reading.first_bad.Given as goal

abbrev pub invariant-loop-line : goal.invariant-loop-line
invariant-loop-line l = Looked l.cpus l.text l.from l.number

abbrev pub decreases-loop-line : goal.decreases-loop-line
decreases-loop-line l = length l.text - l.from
