-- So many CPUs are those of the machine, those ahead are as they were, and the changes lead there.
use Rattle.std.proofs.Common.{◌≡◌, ℕ, ◌<◌, ◌≤◌, length, get_or}
use Rattle.step_changes.specs.Changes.{Adds}
use Rattle.step_changes.specs.Parts.{put_part}
use Rattle.step_changes.specs.Seen.{CpuSeen}
use Rattle.step_changes.proofs.view.note_cpus.Given as goal

abbrev pub invariant-loop-cpu : goal.invariant-loop-cpu
invariant-loop-cpu g l = record {
  size : length l.cpus ≡ length l.fn.cpus;
  seen : (k : ℕ) (d : CpuSeen) → k < l.cpu
      → get_or l.cpus k d ≡ (g.S.Shows.shown l.machine).cpu k;
  ahead : (k : ℕ) (d : CpuSeen) → l.cpu ≤ k → get_or l.cpus k d ≡ get_or l.fn.cpus k d;
  adds : Adds put_part l.fn.changes.items l.changes.items l.fn.cpus l.cpus;
}
