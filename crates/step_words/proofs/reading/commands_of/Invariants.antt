-- The commands are those of the lines before the place.
use Rattle.std.proofs.Common.{◌-◌, length}
use Rattle.step_words.proofs.LineByLine.{Read}
use Rattle.step_words.proofs.reading.commands_of.Given as goal

abbrev pub invariant-loop-line : goal.invariant-loop-line
invariant-loop-line l = Read l.cpus l.text l.from l.commands.items

abbrev pub decreases-loop-line : goal.decreases-loop-line
decreases-loop-line l = length l.text - l.from
