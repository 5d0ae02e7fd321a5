use Rattle.std.proofs.Common.{Some, ap, sym, map, ◌∙◌}
use Rattle.tx_needs.specs.Needs.{need_at}
use Rattle.tx_marks.specs.Marks.{mode_in, first_missing}
use Rattle.tx_marks.proofs.MarksEach.{line_there, line_missing, none_missing}
use Rattle.tx_needs.proofs.NeededLines.{line_in_storage}
use Rattle.tx_marks.proofs.marks.LineMarks.missing_of.Goals as goal

pub is_there-requires : goal.is_there-requires
is_there-requires c =
    line_in_storage c.args.ranges.now c.as_slice-lines.result.now c.loop-line.line-index c.need_for.result
    c.requires.in_storage
    (ap (map (need_at c.args.ranges.now)) c.as_slice-lines.ensures.value ∙ c.lines_needed-needed.ensures)
    c.loop-line-test.true c.need_for.ensures

pub returns-then-not-is_there : goal.returns-then-not-is_there
returns-then-not-is_there c =
    ap (λ n. Some n.line) (sym c.need_for.ensures)
    ∙ sym (line_missing (need_at c.args.ranges.now) c.as_slice-lines.result.now (mode_in c.args.self.now)
    c.loop-line.line-index c.need_for.result c.loop-line-test.true c.need_for.ensures
    (sym c.if-not-is_there.ensures) c.loop-line.invariant)
    ∙ ap (λ needs. first_missing needs (mode_in c.args.self.now))
    (ap (map (need_at c.args.ranges.now)) c.as_slice-lines.ensures.value ∙ c.lines_needed-needed.ensures)

pub loop-line-preserved : goal.loop-line-preserved
loop-line-preserved c =
    line_there (need_at c.args.ranges.now) c.as_slice-lines.result.now (mode_in c.args.self.now)
    c.loop-line.line-index c.need_for.result c.loop-line-test.true c.need_for.ensures
    (sym c.if-not-is_there.ensures) c.loop-line.invariant

pub returns : goal.returns
returns c =
    sym (none_missing (need_at c.args.ranges.now) c.as_slice-lines.result.now (mode_in c.args.self.now)
    c.loop-line.line-index c.loop-line-test.false c.loop-line.invariant)
    ∙ ap (λ needs. first_missing needs (mode_in c.args.self.now))
    (ap (map (need_at c.args.ranges.now)) c.as_slice-lines.ensures.value ∙ c.lines_needed-needed.ensures)
