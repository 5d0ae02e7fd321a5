use Rattle.std.proofs.Common.{◌≡◌}
use Rattle.report_form.specs.Text.{IsPlace}
use Rattle.tx_check.proofs.lines.nth_line.Given as goal

abbrev pub invariant-loop-k : goal.invariant-loop-k
invariant-loop-k l = record { at : l.place.line ≡ l._k; place : IsPlace l.text l.place }
