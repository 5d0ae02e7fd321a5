use Rattle.std.proofs.Common.{◌≡◌, false, take}
use Rattle.tx_footprint.specs.Places.{touched_by}
use Rattle.tx_footprint.proofs.places.is_touched_before.Given as goal

abbrev pub invariant-loop-i : goal.invariant-loop-i
invariant-loop-i l = touched_by l.kind (take l.i l.touches) l.place ≡ false
