-- All bytes below the next one are seen alike.
use Rattle.std.proofs.Common.{◌-◌}
use Rattle.tx_cpu.specs.Parts.{local_of}
use Rattle.tx_marks.specs.Stranger.{SeeAlike}
use Rattle.tx_marks.specs.Own.{bytes_at, is_touched, given}
use Rattle.tx_marks.specs.Traces.{below}
use Rattle.tx_run.proofs.run.Run.first_difference.Given as goal

abbrev pub invariant-loop-address : goal.invariant-loop-address
invariant-loop-address g l =
    record {
      alike : SeeAlike (below (is_touched l.self.made.own) l.from) (local_of l.self.made.start).attempt.overlay
          (given l.self.made.own) (local_of l.other).attempt.overlay (bytes_at (g.V.Bytes.bytes l.base));
    }

abbrev pub decreases-loop-address : goal.decreases-loop-address
decreases-loop-address g l = 1048576 - l.from
