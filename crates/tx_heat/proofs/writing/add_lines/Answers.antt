-- One line of storage more.
use Rattle.std.proofs.Common.{take, ◌+◌, get_or}
use Rattle.std.proofs.lemmas.List.{get_or_default}
use Rattle.tx_heat.specs.declared.counting.LineHeat.{LineHeat}
use Rattle.report_text.proofs.Pieces.{one_more}
use Rattle.tx_heat.specs.Text.{line_text_where, lines_text}
use Rattle.tx_heat.proofs.Written.{lines_more}
use Rattle.tx_heat.proofs.writing.add_lines.Goals as goal

pub loop-line-preserved : goal.loop-line-preserved
loop-line-preserved c =
    let lines = c.args.lines.now in
    let k = c.loop-line.line in
    let none : LineHeat = record { rejects = 0; aborts = 0; disjoint = 0 } in
    let heat = get_or lines k none in
    one_more c.args.text.now.items (lines_text (take (k + 1) lines)) (lines_text (take k lines))
    (line_text_where k heat) c.loop-line.text.items c.add_hot_line.new.text.items c.loop-line.invariant
    c.in_ok-add_hot_line.ensures (lines_more lines k heat c.loop-line-test.true
    (get_or_default lines k heat none c.loop-line-test.true))
