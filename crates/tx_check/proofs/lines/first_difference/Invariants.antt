use Rattle.std.proofs.Common.{◌≡◌, ◌-◌, take, length}
use Rattle.report_form.specs.Text.{lines_of, IsPlace}
use Rattle.tx_check.proofs.lines.first_difference.Given as goal

abbrev pub invariant-loop-place : goal.invariant-loop-place
invariant-loop-place l = record {
  place : IsPlace l.some l.place;
  there : IsPlace l.other l.there;
  beside : l.there.line ≡ l.place.line;
  same : take l.place.line (lines_of l.some) ≡ take l.place.line (lines_of l.other);
}

abbrev pub decreases-loop-place : goal.decreases-loop-place
decreases-loop-place l = length (lines_of l.some) - l.place.line
