-- The bytes of places below the next one are laid.
use Rattle.std.proofs.Common.{◌≡◌, ℕ, ◌<◌, ◌≤◌, ◌-◌, false, length}
use Rattle.std.specs.Prelude.{if◌then◌else◌}
use Rattle.std.specs.List.{slice_index_or}
use Rattle.tx_marks.specs.Own.{bytes_at}
use Rattle.tx_marks.proofs.bytes.lay.Given as goal

abbrev pub invariant-loop-at : goal.invariant-loop-at
invariant-loop-at l =
    record {
      size : length l.now ≡ length l.initial.now;
      done : (a : ℕ) → a < l.from → bytes_at l.now a
          ≡ (if slice_index_or l.places a false then bytes_at l.before a else bytes_at l.initial.now a);
      rest : (a : ℕ) → l.from ≤ a → bytes_at l.now a ≡ bytes_at l.initial.now a;
    }

abbrev pub decreases-loop-at : goal.decreases-loop-at
decreases-loop-at l = length l.places - l.from
