-- None of the CPUs so far has a live attempt.
use Rattle.std.proofs.Common.{◌≡◌, ℕ, ◌<◌, Some}
use Rattle.std.specs.Prelude.{slice_get}
use Rattle.tx_heat.specs.Watched.{Tracked}
use Rattle.tx_heat.proofs.following.are_none_live.Given as goal

abbrev pub invariant-loop-track : goal.invariant-loop-track
invariant-loop-track l = (j : ℕ) (t : Tracked) → j < l.track-index → slice_get l.tracks j ≡ Some t → t.completed ≡ 0
