use Rattle.std.proofs.Common.{◌≡◌, ℕ, ◌+◌, false, length, get_or, take}
use Rattle.bit_set.specs.Counts.{count_below}
use Rattle.tx_footprint.specs.Places.{places_of, marked_or_touched}
use Rattle.tx_footprint.proofs.places.mark_new.Given as goal

abbrev pub invariant-loop-i : goal.invariant-loop-i
invariant-loop-i l =
    record {
      size : length l.set ≡ length l.fn.set;
      marks : (k : ℕ) → get_or l.set k false ≡ marked_or_touched l.fn.set l.kind (take l.i l.touches) k;
      new : l.new + count_below (places_of l.kind) (λ place. get_or l.fn.set place false) ≡ count_below
          (places_of l.kind) (λ place. get_or l.set place false);
    }
