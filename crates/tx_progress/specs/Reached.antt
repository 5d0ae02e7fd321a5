-- The progress that a private run has made, and what is kept of a CPU as its run and the flat state say.
use Rattle.std.specs.Prelude.{◌≡◌, ℕ, ◌+◌, true, if◌then◌else◌, List, [], ◌∷◌, length, Option, Some, None}
use Rattle.z_effect.specs.One.{length_of}
use Rattle.tx_constraint.specs.Constraints.{Step}
use Rattle.tx_constraint.specs.Kept.{Kept, kept}
use Rattle.tx_serial.specs.Overlay.{overlay_of}
use Rattle.tx_serial.specs.Flat.{FlatState}
use Rattle.tx_serial.specs.Attempt.{Run, Open, attempt_of, footprint}
use Rattle.tx_serial.specs.Run.{run}
use Rattle.tx_serial.specs.Apply.{may_act}
use Rattle.tx_progress.specs.Progress.{Progress, is_live, begins_constrained}
use Rattle.tx_progress.specs.Local.{Local}

abbrev pub constraint_of : List Step → Option Kept
constraint_of [] = None
constraint_of (begin ∷ steps) =
    if begins_constrained begin.instruction then Some (kept (attempt_of (begin ∷ steps))) else None

abbrev pub resumption_of : List Step → ℕ
resumption_of [] = 0
resumption_of (begin ∷ steps) =
    if begins_constrained begin.instruction then begin.at else begin.at + length_of begin.instruction

unfoldable pub progress_of : Run → Progress
progress_of p = record {
  cpu = p.cpu;
  overlay = overlay_of p.stores;
  lasting = overlay_of p.lasting;
  nest = p.nest;
  footprint = footprint p;
  constraint = constraint_of p.steps;
  resumes_at = resumption_of p.steps;
  count = length p.steps;
}

-- What is kept of a CPU is what the flat state has of it, and how far its run has come; that run is open, and
-- while there is one the CPU may act.
pub record IsFollowed (f : FlatState) (i : ℕ) (local : Local) : Type 0 where
  pub cpu : f.cpus i ≡ local.cpu
  pub pending : f.pending i ≡ local.pending
  pub waiting : f.waiting i ≡ local.waiting
  pub attempt : progress_of (run f i local.attempt.count) ≡ local.attempt
  pub opens : (run f i local.attempt.count).mark ≡ Open
  pub acts : is_live local.attempt ≡ true → may_act f i ≡ true
