-- The numbers so far are added.
use Rattle.std.proofs.Common.{◌≡◌, ℕ, ◌≤◌, ◌-◌, false, length, get_or}
use Rattle.std.specs.Prelude.{◌||◌}
use Rattle.bit_set.specs.Bits.{lies_in}
use Rattle.bit_set.proofs.set.BitSet.insert_in_words.Given as goal

abbrev pub invariant-loop-at : goal.invariant-loop-at
invariant-loop-at l =
    record {
      from_on : l.from ≤ l.at;
      up_to : l.at ≤ l.end;
      size : length l.self ≡ length l.initial.self;
      marks : (k : ℕ) → get_or l.self k false ≡ (get_or l.initial.self k false || lies_in l.from l.at k);
    }

abbrev pub decreases-loop-at : goal.decreases-loop-at
decreases-loop-at l = l.end - l.at
