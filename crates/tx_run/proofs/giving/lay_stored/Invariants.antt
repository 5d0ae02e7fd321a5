-- The bytes of marked places below the next one are laid.
use Rattle.std.proofs.Common.{◌≡◌, ℕ, ◌<◌, ◌≤◌, ◌-◌, length}
use Rattle.z_regs.specs.Prefix.{storage_size}
use Rattle.tx_marks.specs.Places.{over}
use Rattle.tx_marks.specs.Own.{bytes_at}
use Rattle.tx_marks.specs.Traces.{is_stored}
use Rattle.tx_run.proofs.giving.lay_stored.Given as goal

abbrev pub invariant-loop-at : goal.invariant-loop-at
invariant-loop-at g l =
    record {
      size : length (g.V.Bytes.bytes l.base) ≡ storage_size;
      done : (a : ℕ) → a < l.from → bytes_at (g.V.Bytes.bytes l.base) a
          ≡ over (is_stored l.traces) (bytes_at l.own) (bytes_at (g.V.Bytes.bytes l.initial.base)) a;
      rest : (a : ℕ) → l.from ≤ a → bytes_at (g.V.Bytes.bytes l.base) a
          ≡ bytes_at (g.V.Bytes.bytes l.initial.base) a;
    }

abbrev pub decreases-loop-at : goal.decreases-loop-at
decreases-loop-at g l = 1048576 - l.from
