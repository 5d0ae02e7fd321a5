-- Sound reports, and the report that is expected in place of one that may not be sound.
use Rattle.std.specs.Prelude.{◌≡◌, ℕ, ◌+◌, ◌*◌, ◌<◌, ◌^◌, ◌⊎◌, List, ◌++◌, take, drop, map, codes, slice_get}
use Rattle.std.specs.Prelude.{Option, Some, None}
use Rattle.std.specs.List.{flat_map}
use Rattle.tx_journal.specs.Content.{Content}
use Rattle.tx_journal.specs.Lines.{entry_text}
use Rattle.tx_serial.specs.Flat.{FlatState}
use Rattle.report_form.specs.Sheet.{HasForm, history_at, schedule_at}
use Rattle.report_text.specs.Shown.{Shown, ShownCpu}
use Rattle.report_text.specs.Processor.{attempt_line, counts_line}
use Rattle.report_text.specs.Report.{report_text, schedule_lines}
use Rattle.report_text.specs.declared.processors.Attempt.{Attempt}
use Rattle.report_text.specs.declared.processors.Counts.{Counts}
use Rattle.tx_check.specs.Lines.{lines_of}
use Rattle.tx_check.specs.Told.{IsLive, IsLeft, AreLive}

-- ---- sound reports

-- the text has the form of a report, and is the report of what a legal history leaves, with attempts that the
-- CPUs can have. Turns, questions, rejects and the schedule may be any.
pub record IsSound (image : Content) (report : List ℕ) (entries : ℕ) : Type 0 where
  pub events : ℕ
  pub form : HasForm image (lines_of report) entries events
  pub shown : Shown
  pub after : FlatState
  pub left : IsLeft image shown after
  pub live : AreLive after shown
  pub text : report ≡ report_text shown

-- ---- the report that is expected

-- of an attempt that a line claims, what is expected: the attempt where the CPU can have it, else none
abbrev pub Believes : FlatState → ℕ → Option Attempt → Option Attempt → Type 0
Believes f i None expected = expected ≡ None
Believes f i (Some a) expected =
    ((expected ≡ Some a) × IsLive f i a) ⊎ ((expected ≡ None) × (¬ IsLive f i a))

-- numbers of 64 bits
pub record AreSmall (c : Counts) : Type 0 where
  pub turns : c.turns < 2 ^ 64
  pub asked : c.asked < 2 ^ 64
  pub rejected : c.rejected < 2 ^ 64

abbrev pub IsSmall : Option Attempt → Type 0
IsSmall None = Unit {0}
IsSmall (Some a) = (a.depth < 2 ^ 64) × (a.completed < 2 ^ 64)

-- the lines of the CPU begin at this place, and these are its attempt and its counts there
pub record IsPrinted (lines : List (List ℕ)) (place : ℕ) (attempt : Option Attempt) (counts : Counts) : Type 0
  where
    pub claimed : slice_get lines (place + 8) ≡ Some (attempt_line attempt)
    pub counted : slice_get lines (place + 10) ≡ Some (counts_line counts)
    pub small : IsSmall attempt
    pub small_counts : AreSmall counts

-- of a CPU, whose lines begin at this place, what is taken from them: its attempt where it can have it, its turns
-- and what it asked
pub record IsTaken (lines : List (List ℕ)) (place : ℕ) (f : FlatState) (i : ℕ) (c : ShownCpu) : Type 0 where
  pub claim : Option Attempt
  pub counts : Counts
  pub printed : IsPrinted lines place claim counts
  pub believed : Believes f i claim c.attempt
  pub turns : c.counts.turns ≡ counts.turns
  pub asked : c.counts.asked ≡ counts.asked
  pub rejected : c.counts.rejected ≡ counts.rejected

-- where the lines of a CPU begin
abbrev pub cpu_place : ℕ → ℕ
cpu_place i = 2 + 11 * i

abbrev pub joined : List (List ℕ) → List ℕ
joined lines = flat_map (λ (line : List ℕ). line) lines

-- the report of lines that have the form, with so many entries, should tell this: what the history in its lines
-- leaves, and beside it what the lines say of attempts, turns, questions, rejects and events
pub record IsExpected (image : Content) (lines : List (List ℕ)) (entries : ℕ) (s : Shown) (after : FlatState)
    : Type 0 where
  pub history : map entry_text s.history ≡ take entries (drop (history_at image + 1) lines)
  pub left : IsLeft image s after
  pub taken : (i : ℕ) (c : ShownCpu) → slice_get s.cpus i ≡ Some c → IsTaken lines (cpu_place i) after i c
  pub events : joined (drop (schedule_at image entries) lines) ≡ schedule_lines s.events ++ codes "END\n"
