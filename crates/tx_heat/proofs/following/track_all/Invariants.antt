-- What is kept of the CPUs so far is that behind the event.
use Rattle.std.proofs.Common.{◌≡◌, ℕ, ◌<◌, ◌≤◌, true, List, length, Some}
use Rattle.std.specs.Prelude.{slice_get}
use Rattle.z_regs.specs.declared.ranges.Range.{Range}
use Rattle.tx_meaning.specs.State.{State, is_live}
use Rattle.tx_schedule.specs.Machine.{setting_of, state_of}
use Rattle.tx_schedule.specs.Wanted.{wanted}
use Rattle.tx_heat.specs.Watched.{Tracked, IsTrack, AreTracks, Passes}
use Rattle.tx_heat.proofs.following.track_all.Given as goal

abbrev pub invariant-loop-cpu : goal.invariant-loop-cpu
invariant-loop-cpu l = record {
  size : length l.tracks ≡ length l.fn.tracks;
  behind : (s : State) (asked : List Range)
      → ((t : Tracked) → slice_get l.fn.tracks l.asker ≡ Some t → t.asked ≡ asked)
      → (is_live s l.asker ≡ true → asked ≡ wanted (setting_of l.machine) s l.asker)
      → ((j : ℕ) → Passes (setting_of l.machine) s (state_of l.machine) l.asker asked j)
      → AreTracks (setting_of l.machine) s l.fn.tracks
      → (j : ℕ) (t : Tracked) → j < l.cpu → slice_get l.tracks j ≡ Some t
      → IsTrack (setting_of l.machine) (state_of l.machine) j t;
  ahead : (j : ℕ) → l.cpu ≤ j → slice_get l.tracks j ≡ slice_get l.fn.tracks j;
}
