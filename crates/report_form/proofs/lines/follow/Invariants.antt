use Rattle.std.proofs.Common.{take}
use Rattle.report_form.specs.Lines.{Passes, rows_of}
use Rattle.report_form.specs.Text.{lines_of, IsPlace}
use Rattle.report_form.proofs.lines.follow.Given as goal

abbrev pub invariant-loop-part : goal.invariant-loop-part
invariant-loop-part l =
    Passes l.last (rows_of (take l.part-index l.parts)) (lines_of l.text) l.fn.at.line l.place.line
    × IsPlace l.text l.place
