-- What is answered of a report.
use Rattle.std.specs.Prelude.{◌≡◌, ℕ, ◌+◌, List, take, drop, Result, Ok, Err}
use Rattle.tx_journal.specs.Content.{Content}
use Rattle.tx_serial.specs.Flat.{FlatState}
use Rattle.report_form.specs.Sheet.{HasForm, IsFirstFault, history_at}
use Rattle.tx_replay.specs.Replay.{IsFirstMisfit}
use Rattle.report_text.specs.Shown.{Shown}
use Rattle.report_text.specs.Report.{report_text}
use Rattle.tx_check.specs.declared.checking.CheckFault.{CheckFault}
use Rattle.tx_check.specs.declared.checking.CheckFault.TheVariants.{Memory, Form, Entry, State}
use Rattle.tx_check.specs.Lines.{lines_of, FirstDifference}
use Rattle.tx_check.specs.Sound.{IsExpected}

-- the report has its form, but the entry with this number fits no more
pub record HasMisfit (image : Content) (lines : List (List ℕ)) (number : ℕ) : Type 0 where
  pub entries : ℕ
  pub events : ℕ
  pub form : HasForm image lines entries events
  pub misfit : IsFirstMisfit image (take entries (drop (history_at image + 1) lines)) number

-- the report has its form and the lines of a legal history, but the line with this number is the first that is
-- not the one that is expected
pub record Differs (image : Content) (report : List ℕ) (number : ℕ) : Type 0 where
  pub entries : ℕ
  pub events : ℕ
  pub form : HasForm image (lines_of report) entries events
  pub shown : Shown
  pub after : FlatState
  pub expected : IsExpected image (lines_of report) entries shown after
  pub difference : FirstDifference (lines_of report) (lines_of (report_text shown)) number

abbrev pub IsRefused : Content → List ℕ → CheckFault → Type 0
IsRefused image report Memory = Unit {0}
IsRefused image report (Form number) = IsFirstFault image (lines_of report) number
IsRefused image report (Entry number) = HasMisfit image (lines_of report) number
IsRefused image report (State number) = Differs image report number

-- the text is the report that is expected
pub record IsDueText (image : Content) (lines : List (List ℕ)) (entries : ℕ) (text : List ℕ) : Type 0 where
  pub shown : Shown
  pub after : FlatState
  pub expected : IsExpected image lines entries shown after
  pub told : text ≡ report_text shown

-- the report has its form, and is the one that is expected
pub record IsAccepted (image : Content) (report : List ℕ) (entries : ℕ) : Type 0 where
  pub events : ℕ
  pub form : HasForm image (lines_of report) entries events
  pub due : IsDueText image (lines_of report) entries report

-- this is due of a report
abbrev pub IsDue : Content → List ℕ → Result ℕ CheckFault → Type 0
IsDue image report (Ok entries) = IsAccepted image report entries
IsDue image report (Err fault) = IsRefused image report fault

-- ---- step by step

-- no form, by the lines
abbrev pub HasNoForm : Content → List (List ℕ) → CheckFault → Type 0
HasNoForm image lines Memory = Unit {0}
HasNoForm image lines (Form number) = IsFirstFault image lines number
HasNoForm image lines (Entry number) = ⊥
HasNoForm image lines (State number) = ⊥

-- no history, by the lines
abbrev pub HasNoHistory : Content → List (List ℕ) → CheckFault → Type 0
HasNoHistory image lines Memory = Unit {0}
HasNoHistory image lines (Form number) = ⊥
HasNoHistory image lines (Entry number) = HasMisfit image lines number
HasNoHistory image lines (State number) = ⊥
