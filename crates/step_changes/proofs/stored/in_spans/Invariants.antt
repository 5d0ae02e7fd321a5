-- None of so many ranges stores there.
use Rattle.std.proofs.Common.{◌≡◌, false, take}
use Rattle.step_changes.specs.Stored.{in_spans}
use Rattle.step_changes.proofs.stored.in_spans.Given as goal

abbrev pub invariant-loop-i : goal.invariant-loop-i
invariant-loop-i l = in_spans (take l.i l.touches) l.line ≡ false
