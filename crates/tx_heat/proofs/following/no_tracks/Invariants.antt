-- None of the marks so far is set.
use Rattle.std.proofs.Common.{◌≡◌, ℕ, Some, length}
use Rattle.std.specs.Prelude.{slice_get}
use Rattle.tx_heat.specs.Watched.{Tracked, IsUnused}
use Rattle.tx_heat.proofs.following.no_tracks.Given as goal

abbrev pub invariant-loop-cpu : goal.invariant-loop-cpu
invariant-loop-cpu l = record {
  none : (j : ℕ) (t : Tracked) → slice_get l.tracks.items j ≡ Some t → IsUnused t;
  count : length l.tracks.items ≡ l._cpu;
}
