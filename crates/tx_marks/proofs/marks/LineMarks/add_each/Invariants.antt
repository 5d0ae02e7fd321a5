-- The lines so far have the modes that are needed.
use Rattle.std.proofs.Common.{◌≡◌, ℕ, map, take}
use Rattle.tx_needs.specs.Needs.{need_at}
use Rattle.tx_marks.specs.Marks.{mode_in, with_needs}
use Rattle.tx_marks.proofs.marks.LineMarks.add_each.Given as goal

abbrev pub invariant-loop-line : goal.invariant-loop-line
invariant-loop-line l =
    (line : ℕ) → mode_in l.self line
    ≡ with_needs (map (need_at l.ranges) (take l.line-index l.lines)) (mode_in l.initial.self) line
