use Rattle.std.proofs.Common.{◌≡◌, ℕ, false, length, get_or}
use Rattle.std.specs.Prelude.{◌||◌}
use Rattle.tx_footprint.specs.Places.{lies_in}
use Rattle.tx_footprint.proofs.places.mark_span.Given as goal

abbrev pub invariant-loop-place : goal.invariant-loop-place
invariant-loop-place l =
    (length l.set ≡ length l.fn.set)
    × ((k : ℕ) → get_or l.set k false ≡ (get_or l.fn.set k false || lies_in l.fn.span.first l.place k))
