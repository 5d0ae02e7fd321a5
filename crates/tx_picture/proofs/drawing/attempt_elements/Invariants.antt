-- One element for each.
use Rattle.std.proofs.Common.{◌≡◌, length}
use Rattle.tx_picture.proofs.drawing.attempt_elements.Given as goal

abbrev pub invariant-loop-attempt : goal.invariant-loop-attempt
invariant-loop-attempt l = length l.elements.items ≡ l.attempt-index
