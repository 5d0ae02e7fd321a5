-- The octowords of the ranges so far are marked.
use Rattle.std.proofs.Common.{◌≡◌, ℕ, true, false, length, take}
use Rattle.std.specs.Prelude.{◌||◌}
use Rattle.tx_heat.specs.Marks.{is_marked}
use Rattle.tx_heat.specs.Octowords.{storage_octowords, meets}
use Rattle.tx_heat.proofs.octowords.mark.Given as goal

abbrev pub invariant-loop-i : goal.invariant-loop-i
invariant-loop-i l = record {
  touched_size : length l.touched ≡ storage_octowords;
  stored_size : length l.stored ≡ storage_octowords;
  touched : (k : ℕ) → is_marked l.touched k ≡ (is_marked l.fn.touched k || meets true (take l.i l.ranges) k);
  stored : (k : ℕ) → is_marked l.stored k ≡ (is_marked l.fn.stored k || meets false (take l.i l.ranges) k);
}
