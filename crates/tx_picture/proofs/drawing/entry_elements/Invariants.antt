-- One element for each.
use Rattle.std.proofs.Common.{◌≡◌, length}
use Rattle.tx_picture.proofs.drawing.entry_elements.Given as goal

abbrev pub invariant-loop-placed : goal.invariant-loop-placed
invariant-loop-placed l = length l.elements.items ≡ l.placed-index
