use Rattle.std.proofs.Common.{◌≡◌, ℕ, false, length, get_or, take}
use Rattle.tx_footprint.specs.Places.{marked_or_touched}
use Rattle.tx_footprint.proofs.places.mark.Given as goal

abbrev pub invariant-loop-i : goal.invariant-loop-i
invariant-loop-i l =
    (length l.set ≡ length l.fn.set)
    × ((k : ℕ) → get_or l.set k false ≡ marked_or_touched l.fn.set l.kind (take l.i l.touches) k)
