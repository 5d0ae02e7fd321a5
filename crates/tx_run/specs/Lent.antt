-- A run: what it was given, and what its steps have made.
use Rattle.std.specs.Prelude.{◌≡◌, ℕ, ◌+◌, ◌<◌, ◌≤◌, ◌^◌, ◌/◌, Bool, true, false, ◌&&◌, not, nat_eq, nat_lt}
use Rattle.std.specs.Prelude.{if◌then◌else◌, List, None}
use Rattle.std.specs.List.{list_any}
use Rattle.tx_marks.specs.Need.{Need}
use Rattle.tx_serial.specs.Apply.{is_running}
use Rattle.tx_serial.specs.Flat.{Storage}
use Rattle.tx_progress.specs.Local.{Local}
use Rattle.tx_cpu.specs.Parts.{local_of}
use Rattle.tx_marks.specs.Own.{bytes_at}
use Rattle.tx_marks.specs.Marks.{Marks, mode_in, with_need}
use Rattle.tx_run.specs.Made.{Made, IsMade, step_by, next_fate}
use Rattle.tx_run.specs.declared.reason.RunStep.{RunStep}
use Rattle.tx_run.specs.declared.reason.RunStep.TheVariants as step
use Rattle.tx_run.specs.declared.reason.Reason.TheVariants as reason

-- the text pages and the bytes of the image that it runs, its CPU by number with the counted turns and the attempt that it
-- was lent with, how many steps it may make, the lines that it holds, and its steps
pub record Lent : Type 0 where
  pub text : List ℕ
  pub image : List ℕ
  pub cpu : ℕ
  pub turns : ℕ
  pub attempt : ℕ
  pub allowance : ℕ
  pub held : Marks
  pub made : Made

-- the steps are so many turns, no more than the run may make; completed instructions can be counted; and the CPU was running
pub record IsLent (text image : List ℕ) (allowance : ℕ) (m : Made) : Type 0 where
  pub made : IsMade text image m
  pub few : m.steps ≤ allowance
  pub most : allowance ≤ 64
  pub counted : (local_of m.start).attempt.count + allowance < 2 ^ 32
  pub runs : is_running (local_of m.start).attempt.cpu.state ≡ true

-- it runs the same image for the same CPU, with the same turns and attempt, and may make as many steps
pub record IsFor (r other : Lent) : Type 0 where
  pub text : other.text ≡ r.text
  pub image : other.image ≡ r.image
  pub cpu : other.cpu ≡ r.cpu
  pub turns : other.turns ≡ r.turns
  pub attempt : other.attempt ≡ r.attempt
  pub allowance : other.allowance ≡ r.allowance

-- ---- what it is loaded with

-- it has made no step, and has no line
pub record IsLoaded (from : Local) (r : Lent) : Type 0 where
  pub start : local_of r.made.start ≡ from
  pub reached : local_of r.made.reached ≡ from
  pub steps : r.made.steps ≡ 0
  pub held : (line : ℕ) → mode_in r.held line ≡ None

-- of a line the bytes are those of other storage, but for those in text pages, which are the image's
abbrev pub with_line : List ℕ → ℕ → Storage → Storage → Storage
with_line text line from old a =
    if nat_eq (a / 256) line && not (list_any (nat_eq (line / 16)) text) then from a else old a

-- it has one line more, and all else is as it was
pub record HasOneMore (need : Need) (from : Storage) (r other : Lent) : Type 0 where
  pub held : (line : ℕ) → mode_in other.held line ≡ with_need need (mode_in r.held) line
  pub bytes : (a : ℕ) → bytes_at other.made.own.now a ≡ with_line r.text need.line from (bytes_at r.made.own.now) a
  pub start : other.made.start ≡ r.made.start
  pub reached : other.made.reached ≡ r.made.reached
  pub steps : other.made.steps ≡ r.made.steps
  pub loan : IsFor r other

-- all that a run was given is as it was
pub record IsSameLoan (r other : Lent) : Type 0 where
  pub loan : IsFor r other
  pub held : other.held ≡ r.held

-- ---- a step

-- what it comes to, by tests in order: whether the run is called home, whether it has made all steps that it may, and what
-- the next instruction is, needs and comes to
abbrev pub step_of : Bool → Lent → RunStep
step_of called r =
    if called then step.Leave reason.CalledHome
    else (if nat_lt r.made.steps r.allowance then step_by (mode_in r.held) (next_fate r.text r.made) r.made
    else step.Leave reason.Allowance)

abbrev pub is_done : RunStep → Bool
is_done step.Done = true
is_done (step.Leave reason) = false
