use Rattle.std.proofs.Common.{◌≡◌, ◌+◌, drop}
use Rattle.std.specs.Prelude.{replicate}
use Rattle.report_form.specs.Lines.{Fit}
use Rattle.report_form.specs.Text.{lines_of, IsPlace}
use Rattle.report_form.proofs.lines.follow_row.Given as goal

abbrev pub invariant-loop-k : goal.invariant-loop-k
invariant-loop-k l =
    (l.place.line ≡ l.fn.at.line + l._k) × IsPlace l.text l.place
    × Fit l.last (replicate l._k l.part.row) (drop l.fn.at.line (lines_of l.text))
