use Rattle.std.proofs.Common.{◌*◌, ◌^◌, ◌≤◌, take}
use Rattle.bit_set.specs.Counts.{count_below}
use Rattle.tx_footprint.specs.declared.places.Kind.{Kind}
use Rattle.tx_footprint.specs.Places.{places_of, touched_by}
use Rattle.tx_footprint.proofs.places.most_places.Given as goal

abbrev pub invariant-loop-i : goal.invariant-loop-i
invariant-loop-i l =
    record {
      places : (kind : Kind) → count_below (places_of kind) (touched_by kind (take l.i l.touches)) ≤ l.most;
      few : l.most ≤ l.i * 2 ^ 26;
    }
