-- The steps of a run: turns of a CPU on storage of its own.
use Rattle.std.specs.Prelude.{◌≡◌, ℕ, zero, suc, ◌+◌, ◌≤◌, ◌<◌, Bool, true, false, ◌||◌, List, [], ◌++◌, Option, Some, None}
use Rattle.std.specs.Prelude.{All, length, nat_eq}
use Rattle.std.specs.List.{list_any}
use Rattle.std.specs.Prelude.{if◌then◌else◌}
use Rattle.z_regs.specs.Absolute.{IsAccessible}
use Rattle.z_regs.specs.Prefix.{storage_size, absolute_of}
use Rattle.z_instr.specs.Layout.{length_by}
use Rattle.z_regs.specs.declared.ranges.Range.{Range}
use Rattle.z_instr.specs.declared.instr.Instr.{Instr}
use Rattle.line_table.specs.declared.table.Mode.{Mode}
use Rattle.tx_marks.specs.Needs.{operand_needs}
use Rattle.tx_marks.specs.Need.{Need}
use Rattle.tx_serial.specs.Fate.{Fate, Goes, Ends, Stops}
use Rattle.tx_serial.specs.Flat.{Storage}
use Rattle.tx_serial.specs.Text.{SameText}
use Rattle.tx_progress.specs.Doing.{executed}
use Rattle.tx_progress.specs.Local.{Beside}
use Rattle.tx_progress.specs.Progress.{Progress, seen_through}
use Rattle.tx_progress.specs.Trial.{fate_by_progress}
use Rattle.tx_progress.specs.declared.done.Done.{Done}
use Rattle.tx_progress.specs.declared.done.Done.TheVariants as done
use Rattle.tx_cpu.specs.Parts.{Parts, local_of, beside}
use Rattle.tx_marks.specs.Away.{ran, GoAway, GoesAway, touched, is_plain}
use Rattle.tx_marks.specs.Places.{is_among, text_places, operand_places, stored_places}
use Rattle.tx_marks.specs.Own.{Own, given, is_touched, bytes_at}
use Rattle.tx_marks.specs.Traces.{Traces, is_stored, is_paged, has_page}
use Rattle.tx_marks.specs.Marks.{Marks, mode_in, with_needs, first_missing}
use Rattle.tx_run.specs.declared.reason.Reason.TheVariants as reason
use Rattle.tx_run.specs.declared.reason.RunStep.{RunStep}
use Rattle.tx_run.specs.declared.reason.RunStep.TheVariants as step

-- a CPU as it was lent and as it has become, its storage and what its steps have left there, the lines that they needed, and
-- how many they are
pub record Made : Type 0 where
  pub start : Parts
  pub reached : Parts
  pub own : Own
  pub traces : Traces
  pub needed : Marks
  pub steps : ℕ

-- before the first step, and now
abbrev pub from : Made → Beside
from m = record { local = local_of m.start; storage = given m.own }

abbrev pub now : Made → Beside
now m = beside m.reached m.own.now

-- ---- the lines that steps need

abbrev pub fate_needs : Fate → Progress → List Need
fate_needs (Goes instr ranges) q = operand_needs q.cpu.prefix ranges
fate_needs (Ends why) q = []
fate_needs (Stops e) q = []

abbrev pub turn_needs : List ℕ → Beside → List Need
turn_needs text b = fate_needs (fate_by_progress text b.storage b.local.attempt) b.local.attempt

unfoldable pub needs_by : List ℕ → ℕ → Beside → ℕ → Option Mode
needs_by text zero b line = None
needs_by text (suc k) b line = with_needs (turn_needs text (ran text k b)) (needs_by text k b) line

-- ---- what steps store, and the pages of that and of their instructions

abbrev pub fate_lays : Fate → Progress → List ℕ
fate_lays (Goes instr ranges) q = stored_places ranges q
fate_lays (Ends why) q = []
fate_lays (Stops e) q = []

abbrev pub turn_lays : List ℕ → Beside → List ℕ
turn_lays text b = fate_lays (fate_by_progress text b.storage b.local.attempt) b.local.attempt

unfoldable pub laid : List ℕ → ℕ → Beside → ℕ → Bool
laid text zero b a = false
laid text (suc k) b a = laid text k b a || is_among (turn_lays text (ran text k b)) a

abbrev pub turn_traces : List ℕ → Beside → List ℕ
turn_traces text b = text_places b.storage b.local.attempt ++ turn_lays text b

unfoldable pub paged : List ℕ → ℕ → Beside → ℕ → Bool
paged text zero b page = false
paged text (suc k) b page = paged text k b page || has_page (turn_traces text (ran text k b)) page

-- ---- what the steps are

-- As many turns as steps make what it has become; each of them may be made away; what they touched, stored and needed is
-- marked, and the pages of what they stored and of themselves; and the bytes of text pages are those of the image, before and now.
pub record IsMade (text : List ℕ) (image : List ℕ) (m : Made) : Type 0 where
  pub makes : ran text m.steps (from m) ≡ now m
  pub away : GoAway text (mode_in m.needed) m.steps (from m)
  pub marks : (a : ℕ) → is_touched m.own a ≡ touched text m.steps (from m) a
  pub stored : (a : ℕ) → is_stored m.traces a ≡ laid text m.steps (from m) a
  pub pages : (page : ℕ) → is_paged m.traces page ≡ paged text m.steps (from m) page
  pub needs : (line : ℕ) → mode_in m.needed line ≡ needs_by text m.steps (from m) line
  pub given : SameText text (bytes_at image) (given m.own)
  pub now : SameText text (bytes_at image) (bytes_at m.own.now)
  pub count : (local_of m.reached).attempt.count ≤ (local_of m.start).attempt.count + m.steps

-- at marked pages there are the same text pages
abbrev pub AgreeOnPages : (ℕ → Bool) → List ℕ → List ℕ → Type 0
AgreeOnPages marked text other =
    (page : ℕ) → marked page ≡ true → list_any (nat_eq page) other ≡ list_any (nat_eq page) text

-- turns that may be made again from the start: each goes away, and no byte of text pages was given otherwise
pub record MayBeMadeAgain (text : List ℕ) (image : List ℕ) (m : Made) : Type 0 where
  pub needed : ℕ → Option Mode
  pub away : GoAway text needed m.steps (from m)
  pub given : SameText text (bytes_at image) (given m.own)

-- the CPU that was lent, and storage before the first step, are as they were, and so is the number of steps
pub record StartsAlike (m other : Made) : Type 0 where
  pub start : other.start ≡ m.start
  pub given : (a : ℕ) → given other.own a ≡ given m.own a

-- ---- one more

-- the next instruction may be made away, and completes
pub record NextGoesAway (text : List ℕ) (m : Made) : Type 0 where
  pub needed : ℕ → Option Mode
  pub away : GoesAway text needed (now m)

-- the next instruction lies in storage, and so do its operands, of which there are at most two
pub record IsWithin (s : Storage) (q : Progress) (need : List Range) : Type 0 where
  pub first : q.cpu.address < storage_size
  pub fetched : q.cpu.address + length_by (seen_through q.overlay s (absolute_of q.cpu.prefix q.cpu.address))
      ≤ storage_size
  pub accessible : All (IsAccessible q.cpu.prefix) need
  pub inside : All (λ (r : Range). r.first + r.length ≤ storage_size) need
  pub few : length need ≤ 2

-- an instruction has been made: the CPU and its storage are what it leaves, and what it touched, stored and needed is marked
pub record OneMade (instr : Instr) (ranges : List Range) (m other : Made) : Type 0 where
  pub now : now other ≡ (executed instr ranges (now m)).after
  pub touched : (a : ℕ) → is_touched other.own a ≡ (is_touched m.own a
      || is_among (text_places (bytes_at m.own.now) (local_of m.reached).attempt
      ++ operand_places ranges (local_of m.reached).attempt) a)
  pub stored : (a : ℕ) → is_stored other.traces a ≡ (is_stored m.traces a
      || is_among (stored_places ranges (local_of m.reached).attempt) a)
  pub pages : (page : ℕ) → is_paged other.traces page ≡ (is_paged m.traces page
      || has_page (text_places (bytes_at m.own.now) (local_of m.reached).attempt
      ++ stored_places ranges (local_of m.reached).attempt) page)
  pub needed : (line : ℕ) → mode_in other.needed line
      ≡ with_needs (operand_needs (local_of m.reached).attempt.cpu.prefix ranges) (mode_in m.needed) line

abbrev pub is_stepped : Done → Bool
is_stepped done.Stepped = true
is_stepped _ = false

abbrev pub next_fate : List ℕ → Made → Fate
next_fate text m = fate_by_progress text (bytes_at m.own.now) (local_of m.reached).attempt

-- what comes of an instruction that goes, and whose lines are there
abbrev pub step_there : Instr → List Range → Made → RunStep
step_there instr ranges m =
    if is_stepped (executed instr ranges (now m)).told then step.Done else step.Leave reason.AtHome

abbrev pub step_where : Option ℕ → Instr → List Range → Made → RunStep
step_where (Some line) instr ranges m = step.Leave (reason.LineMissing line)
step_where None instr ranges m = step_there instr ranges m

abbrev pub step_by : (ℕ → Option Mode) → Fate → Made → RunStep
step_by held (Goes instr ranges) m =
    if is_plain instr
    then step_where (first_missing (operand_needs (local_of m.reached).attempt.cpu.prefix ranges) held) instr ranges m
    else step.Leave reason.AtHome
step_by held (Ends why) m = step.Leave reason.AtHome
step_by held (Stops e) m = step.Leave reason.AtHome
