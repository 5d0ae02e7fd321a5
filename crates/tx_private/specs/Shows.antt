-- When what is kept of a run shows that run.
use Rattle.std.specs.Prelude.{◌≡◌, ◌≢◌, ℕ, ◌≤◌, Bool, true, false, length, All, List, [], ◌∷◌, Option, Some}
use Rattle.z_regs.specs.Cpu.{Cpu, cpu_of}
use Rattle.z_regs.specs.Prefix.{storage_size}
use Rattle.z_regs.specs.Seen.{seen_by}
use Rattle.z_effect.specs.One.{length_of}
use Rattle.tx_control.specs.Nesting.{is_constrained}
use Rattle.tx_constraint.specs.Constraints.{Step, GoesOn}
use Rattle.tx_constraint.specs.Kept.{Kept, kept}
use Rattle.tx_footprint.specs.Places.{IsInStorage}
use Rattle.tx_footprint.specs.Touched.{sets_of}
use Rattle.tx_serial.specs.Flat.{Storage, FlatState, bytes_of, laid_over}
use Rattle.tx_serial.specs.Run.{run as runs}
use Rattle.tx_private.specs.Bytes.{function_of}
use Rattle.tx_serial.specs.Attempt.{Run, footprint, attempt_of, last_step}
use Rattle.tx_serial.specs.Attempt as run
use Rattle.tx_private.specs.declared.attempt.Attempt.{Attempt}
use Rattle.tx_private.specs.declared.attempt.Mark.{Mark}
use Rattle.tx_private.specs.declared.attempt.Mark.TheVariants.{Open, Committed, Overflowed, Missing}
use Rattle.tx_private.specs.Reading.{IsCopy}

abbrev pub mark_of : Mark → run.Mark
mark_of Open = run.Open
mark_of Committed = run.Committed
mark_of Overflowed = run.Overflowed
mark_of Missing = run.Missing

-- no byte stands behind the end of storage
abbrev pub EndsInTime : Storage → Type 0
EndsInTime s = (a : ℕ) → storage_size ≤ a → s a ≡ 0

abbrev pub is_empty : {A : Type 0} → List A → Bool
is_empty [] = true
is_empty (x ∷ xs) = false

-- the begin of a run
abbrev pub begin_at : List Step → ℕ
begin_at [] = 0
begin_at (begin ∷ steps) = begin.at

abbrev pub begin_length : List Step → ℕ
begin_length [] = 0
begin_length (begin ∷ steps) = length_of begin.instruction

-- an instruction that there is stands at an address and has so many bytes
pub record IsTold (at length : ℕ) (o : Option Step) : Type 0 where
  pub step : Step
  pub there : o ≡ Some step
  pub address : step.at ≡ at
  pub size : length_of step.instruction ≡ length

-- what is kept for the constraints decides, and there is one open begin
pub record IsLimited (k : Kept) (p : Run) : Type 0 where
  pub keeps : k ≡ kept (attempt_of p.steps)
  pub goes_on : GoesOn (attempt_of p.steps)
  pub one : length p.nest ≡ 1

pub record Shows (base : Storage) (a : Attempt) (p : Run) : Type 0 where
  pub mark : mark_of a.mark ≡ p.mark
  pub cpu : p.cpu ≡ cpu_of a.image
  pub copy : IsCopy a.seen p
  pub copy_ends : EndsInTime p.copy
  pub lasting : a.lasting ≡ seen_by p.cpu.prefix (bytes_of (laid_over base p.lasting))
  pub lasting_ends : EndsInTime (laid_over base p.lasting)
  pub nest : a.nest ≡ p.nest
  pub sets : sets_of a.footprint ≡ footprint p
  pub touched : All IsInStorage p.touched
  pub limited : is_constrained p.nest ≡ true → IsLimited a.constraint p
  pub begun : a.begin.at ≡ begin_at p.steps
  pub begun_length : a.begin.length ≡ begin_length p.steps
  pub started : p.mark ≡ run.Open → is_empty p.nest ≡ is_empty p.steps
  pub last : p.mark ≡ run.Overflowed → IsTold a.last.at a.last.length (last_step p.steps)

-- there is a run that it shows
abbrev pub Shown : Attempt → Type 0
Shown a = (base : Storage) × ((p : Run) × Shows base a p)

-- the marks are the same, and all of the run is shown where there is one
pub record IsRun (base : Storage) (a : Attempt) (p : Run) : Type 0 where
  pub mark : mark_of a.mark ≡ p.mark
  pub shows : p.mark ≢ run.Missing → Shows base a p

abbrev pub SomeRun : Attempt → Type 0
SomeRun a = (base : Storage) × ((p : Run) × IsRun base a p)

-- it shows the run of so many instructions of a CPU, on each state that has this storage, text and CPU
abbrev pub IsRunOf : List ℕ → List ℕ → Cpu → ℕ → Attempt → Type 0
IsRunOf bytes text c n a =
    (f : FlatState) (i : ℕ) → f.storage ≡ function_of bytes → f.text ≡ text → f.cpus i ≡ c
    → IsRun f.storage a (runs f i n)
