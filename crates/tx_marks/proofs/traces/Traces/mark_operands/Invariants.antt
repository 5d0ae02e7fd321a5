-- The first operands that are stored are marked, and their pages.
use Rattle.std.proofs.Common.{◌≡◌, ℕ, ◌||◌, take}
use Rattle.std.specs.List.{flat_map, filter}
use Rattle.tx_lending.specs.Places.{is_among, places_from}
use Rattle.tx_marks.specs.Traces.{is_stored, is_paged, has_page}
use Rattle.tx_marks.proofs.traces.Traces.mark_operands.Given as goal

abbrev pub invariant-loop-i : goal.invariant-loop-i
invariant-loop-i l =
    record {
      stored : (a : ℕ) → is_stored l.self a ≡ (is_stored l.initial.self a
          || is_among (flat_map (λ r. places_from l.prefix r.first r.length)
          (filter (λ r. r.store) (take l.i l.need))) a);
      pages : (page : ℕ) → is_paged l.self page ≡ (is_paged l.initial.self page
          || has_page (flat_map (λ r. places_from l.prefix r.first r.length)
          (filter (λ r. r.store) (take l.i l.need))) page);
    }
