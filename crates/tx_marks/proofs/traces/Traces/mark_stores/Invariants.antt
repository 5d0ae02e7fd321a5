-- So many bytes are marked as stored.
use Rattle.std.proofs.Common.{◌≡◌, ℕ, ◌||◌}
use Rattle.tx_lending.specs.Places.{is_among, places_from}
use Rattle.tx_marks.specs.Traces.{is_stored}
use Rattle.tx_marks.proofs.traces.Traces.mark_stores.Given as goal

abbrev pub invariant-loop-k : goal.invariant-loop-k
invariant-loop-k l =
    record {
      pages : l.self.pages ≡ l.initial.self.pages;
      marks : (a : ℕ) → is_stored l.self a
          ≡ (is_stored l.initial.self a || is_among (places_from l.prefix l.first l.k) a);
    }
