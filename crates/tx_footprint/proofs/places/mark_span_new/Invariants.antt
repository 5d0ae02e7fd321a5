use Rattle.std.proofs.Common.{◌≡◌, ℕ, ◌+◌, ◌≤◌, false, length, get_or}
use Rattle.std.specs.Prelude.{◌||◌}
use Rattle.bit_set.specs.Counts.{count_below}
use Rattle.tx_footprint.specs.Places.{lies_in}
use Rattle.tx_footprint.proofs.places.mark_span_new.Given as goal

abbrev pub invariant-loop-place : goal.invariant-loop-place
invariant-loop-place l =
    record {
      size : length l.set ≡ length l.fn.set;
      marks : (k : ℕ)
          → get_or l.set k false ≡ (get_or l.fn.set k false || lies_in l.fn.span.first l.place k);
      few : l.new + l.fn.span.first ≤ l.place;
      new : l.new + count_below (length l.fn.set) (λ place. get_or l.fn.set place false) ≡ count_below
          (length l.fn.set) (λ place. get_or l.set place false);
    }
