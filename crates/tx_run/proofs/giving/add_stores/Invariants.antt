-- The attempt has stored the bytes of marked places below the next one.
use Rattle.std.proofs.Common.{◌≡◌, ◌-◌}
use Rattle.tx_cpu.specs.Parts.{local_of}
use Rattle.tx_marks.specs.Stranger.{upon, only_at}
use Rattle.tx_marks.specs.Traces.{is_stored, below}
use Rattle.tx_run.proofs.Adding.{with_waits}
use Rattle.tx_run.proofs.giving.add_stores.Given as goal

abbrev pub invariant-loop-at : goal.invariant-loop-at
invariant-loop-at l =
    record {
      added : local_of l.into ≡ with_waits (upon (only_at (below (is_stored l.traces) l.next)
          (local_of l.from).attempt.overlay) (local_of l.initial.into).attempt.overlay) (local_of l.initial.into);
    }

abbrev pub decreases-loop-at : goal.decreases-loop-at
decreases-loop-at l = 1048576 - l.next
