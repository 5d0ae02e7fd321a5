use Rattle.std.proofs.Common.{ap, map, ◌∙◌}
use Rattle.tx_needs.specs.Needs.{need_at}
use Rattle.tx_marks.specs.Marks.{mode_in}
use Rattle.tx_marks.proofs.MarksEach.{none_added, line_added}
use Rattle.tx_needs.proofs.NeededLines.{line_in_storage}
use Rattle.tx_marks.proofs.marks.LineMarks.add_each.Goals as goal

pub loop-line-init : goal.loop-line-init
loop-line-init c = λ line. none_added (mode_in c.args.self.now) line

pub add-requires : goal.add-requires
add-requires c =
    line_in_storage c.args.ranges.now c.as_slice-lines.result.now c.loop-line.line-index c.need_for.result
    c.requires.in_storage
    (ap (map (need_at c.args.ranges.now)) c.as_slice-lines.ensures.value ∙ c.lines_needed-needed.ensures)
    c.loop-line-test.true c.need_for.ensures

pub loop-line-preserved : goal.loop-line-preserved
loop-line-preserved c = λ line.
    line_added (need_at c.args.ranges.now) c.as_slice-lines.result.now (mode_in c.args.self.now)
    c.loop-line.line-index c.need_for.result (mode_in c.loop-line.self) (mode_in c.add.new.self) line
    c.loop-line-test.true c.need_for.ensures (c.loop-line.invariant line) (c.add.ensures line)
