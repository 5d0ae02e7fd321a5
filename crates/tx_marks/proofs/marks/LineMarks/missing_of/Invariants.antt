-- The lines so far are there.
use Rattle.std.proofs.Common.{◌≡◌, map, drop}
use Rattle.tx_needs.specs.Needs.{need_at}
use Rattle.tx_marks.specs.Marks.{mode_in, first_missing}
use Rattle.tx_marks.proofs.marks.LineMarks.missing_of.Given as goal

abbrev pub invariant-loop-line : goal.invariant-loop-line
invariant-loop-line l =
    first_missing (map (need_at l.ranges) l.lines) (mode_in l.self)
    ≡ first_missing (map (need_at l.ranges) (drop l.line-index l.lines)) (mode_in l.self)
