-- One element for each.
use Rattle.std.proofs.Common.{◌≡◌, length}
use Rattle.tx_picture.proofs.drawing.turn_elements.Given as goal

abbrev pub invariant-loop-mark : goal.invariant-loop-mark
invariant-loop-mark l = length l.elements.items ≡ l.mark-index
