use Rattle.std.proofs.Common.{◌≡◌, ◌+◌, ◌≤◌, take}
use Rattle.std.specs.Prelude.{◌||◌}
use Rattle.bit_set.specs.Counts.{count_below}
use Rattle.tx_footprint.specs.Places.{lies_in, places_of, marked_or_touched}
use Rattle.tx_footprint.proofs.places.added_by.Given as goal

abbrev pub invariant-loop-place : goal.invariant-loop-place
invariant-loop-place l =
    (l.added + l.initial.place ≤ l.place)
    × (l.added + count_below (places_of l.kind)
    (marked_or_touched l.set l.kind (take l.i l.touches)) ≡ count_below (places_of l.kind)
    (λ k. marked_or_touched l.set l.kind (take l.i l.touches) k || lies_in l.initial.place l.place k))
