-- None of the lines before the place is the mark.
use Rattle.std.proofs.Common.{◌-◌, length}
use Rattle.input_parts.proofs.Marks.{Unmarked}
use Rattle.input_parts.proofs.parting.part.Given as goal

abbrev pub invariant-loop-line : goal.invariant-loop-line
invariant-loop-line l = Unmarked l.mark l.input l.from

abbrev pub decreases-loop-line : goal.decreases-loop-line
decreases-loop-line l = length l.input - l.from
