-- The first bytes are gathered.
use Rattle.std.proofs.Common.{◌≡◌, ◌≤◌, ◌-◌, take, length}
use Rattle.store_cache.specs.Entries.{stores_of}
use Rattle.tx_attempt.specs.Gathered.{with_gathered}
use Rattle.tx_attempt.proofs.gathering.gather_pieces.Given as goal

abbrev pub invariant-loop-done : goal.invariant-loop-done
invariant-loop-done l =
    record {
      up_to : l.done ≤ length l.bytes;
      value : stores_of l.stores ≡ with_gathered l.prefix l.first (take l.done l.bytes) (stores_of l.initial.stores);
    }

abbrev pub decreases-loop-done : goal.decreases-loop-done
decreases-loop-done l = length l.bytes - l.done
