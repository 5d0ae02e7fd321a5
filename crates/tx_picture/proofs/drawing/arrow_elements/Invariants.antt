-- One element for each.
use Rattle.std.proofs.Common.{◌≡◌, length}
use Rattle.tx_picture.proofs.drawing.arrow_elements.Given as goal

abbrev pub invariant-loop-arrow : goal.invariant-loop-arrow
invariant-loop-arrow l = length l.elements.items ≡ l.arrow-index
