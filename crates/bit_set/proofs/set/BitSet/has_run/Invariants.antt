-- The numbers so far are in the set.
use Rattle.std.proofs.Common.{◌≡◌, ℕ, ◌≤◌, ◌<◌, ◌-◌, true, false, get_or}
use Rattle.bit_set.proofs.set.BitSet.has_run.Given as goal

abbrev pub invariant-loop-at : goal.invariant-loop-at
invariant-loop-at l =
    record {
      from_on : l.from ≤ l.at;
      up_to : l.at ≤ l.end;
      there : (k : ℕ) → l.from ≤ k → k < l.at → get_or l.self k false ≡ true;
    }

abbrev pub decreases-loop-at : goal.decreases-loop-at
decreases-loop-at l = l.end - l.at
