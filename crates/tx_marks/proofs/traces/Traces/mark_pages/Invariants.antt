-- The pages of so many bytes are marked.
use Rattle.std.proofs.Common.{◌≡◌, ℕ, ◌||◌}
use Rattle.tx_lending.specs.Places.{places_from}
use Rattle.tx_marks.specs.Traces.{is_paged, has_page}
use Rattle.tx_marks.proofs.traces.Traces.mark_pages.Given as goal

abbrev pub invariant-loop-k : goal.invariant-loop-k
invariant-loop-k l =
    record {
      stored : l.self.stored ≡ l.initial.self.stored;
      marks : (page : ℕ) → is_paged l.self page
          ≡ (is_paged l.initial.self page || has_page (places_from l.prefix l.first l.k) page);
    }
