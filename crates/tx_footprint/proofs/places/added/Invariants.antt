use Rattle.std.proofs.Common.{◌≡◌, ◌+◌, false, get_or, take}
use Rattle.bit_set.specs.Counts.{count_below}
use Rattle.tx_footprint.specs.Places.{places_of, marked_or_touched}
use Rattle.tx_footprint.proofs.places.added.Given as goal

abbrev pub invariant-loop-i : goal.invariant-loop-i
invariant-loop-i l =
    l.added + count_below (places_of l.kind) (λ place. get_or l.set place false) ≡ count_below
    (places_of l.kind) (marked_or_touched l.set l.kind (take l.i l.touches))
