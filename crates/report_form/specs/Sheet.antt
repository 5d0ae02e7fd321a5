-- The lines of a whole report.
use Rattle.std.specs.Prelude.{◌≡◌, ℕ, zero, suc, ◌+◌, ◌-◌, ◌*◌, ◌/◌, ◌%◌, ◌<◌, ◌^◌, List, [], ◌∷◌, ◌++◌, length}
use Rattle.std.specs.Prelude.{drop, get_or, ◌==◌, if◌then◌else◌}
use Rattle.std.specs.List.{flat_map}
use Rattle.std.specs.Fmt.{decimal}
use Rattle.tx_journal.specs.Content.{Content}
use Rattle.tx_journal.specs.declared.image.Show.{Show}
use Rattle.report_form.specs.declared.words.Name.{Name}
use Rattle.report_form.specs.declared.words.Name.TheVariants as name
use Rattle.report_form.specs.declared.lines.Part.{Part}
use Rattle.report_form.specs.declared.rows.Row.{Row}
use Rattle.report_form.specs.declared.rows.Row.TheVariants as row
use Rattle.report_form.specs.declared.sheet.Sheet.{Sheet}
use Rattle.report_form.specs.declared.sheet.FormFault.{FormFault}
use Rattle.report_form.specs.declared.sheet.FormFault.TheVariants.{Memory, Line}
use Rattle.report_form.specs.Words.{name_text}
use Rattle.report_form.specs.Lines.{rows_of, Fit, Faulty}
use Rattle.report_form.specs.Text.{IsPlace, IsNext}

-- ---- the rows that are due

abbrev pub once : Row → Part
once r = record { row = r; count = 1 }

abbrev pub times : ℕ → Row → Part
times n r = record { row = r; count = n }

-- a CPU
abbrev pub cpu_parts : List Part
cpu_parts =
    once row.State ∷ once row.Psw
    ∷ once (row.General name.From0) ∷ once (row.General name.From4)
    ∷ once (row.General name.From8) ∷ once (row.General name.From12)
    ∷ once (row.Access name.From0) ∷ once (row.Access name.From8)
    ∷ once row.Attempt ∷ once row.Pending ∷ once row.Counts ∷ []

-- shown bytes, sixteen to a line, the last line with what is left; or the fields of a block
abbrev pub show_parts : Show → List Part
show_parts s =
    if s.fields then once row.Block ∷ []
    else times (s.length / 16) (row.Bytes 32)
    ∷ times (if s.length % 16 == 0 then 0 else 1) (row.Bytes (2 * (s.length % 16))) ∷ []

-- so many CPUs
abbrev pub cpus_parts : ℕ → List Part
cpus_parts zero = []
cpus_parts (suc n) = cpus_parts n ++ cpu_parts

-- the state at the end of the run
abbrev pub head_parts : Content → List Part
head_parts image =
    (once row.Title ∷ once row.Status ∷ [])
    ++ (cpus_parts (length image.cpus) ++ flat_map show_parts image.shows)

-- so many entries
abbrev pub history_parts : ℕ → List Part
history_parts entries = times entries row.Entry ∷ []

-- so many events, sixteen to a line, the last line with what is left, and the end
abbrev pub schedule_parts : ℕ → List Part
schedule_parts events =
    times (events / 16) (row.Events 16)
    ∷ times (if events % 16 == 0 then 0 else 1) (row.Events (events % 16)) ∷ once row.End ∷ []

-- ---- counts

-- the line of a count
abbrev pub count_line : Name → ℕ → List ℕ
count_line n count = name_text n ++ 32 ∷ (decimal count ++ 10 ∷ [])

-- the line at this place gives this count
pub record Counts (n : Name) (lines : List (List ℕ)) (at count : ℕ) : Type 0 where
  pub fits : count < 2 ^ 64
  pub there : at < length lines
  pub is : get_or lines at [] ≡ count_line n count

-- ---- the whole

abbrev pub last_of : Content → ℕ
last_of image = length image.cpus - 1

abbrev pub rows_in : List Part → ℕ
rows_in parts = length (rows_of parts)

-- where the counts of entries and of events stand, and how many lines there are
abbrev pub history_at : Content → ℕ
history_at image = rows_in (head_parts image)

abbrev pub schedule_at : Content → ℕ → ℕ
schedule_at image entries = history_at image + 1 + rows_in (history_parts entries)

abbrev pub length_of : Content → ℕ → ℕ → ℕ
length_of image entries events = schedule_at image entries + 1 + rows_in (schedule_parts events)

-- the rows of some parts have their lines from a place on
abbrev pub FitAt : Content → List (List ℕ) → List Part → ℕ → Type 0
FitAt image lines parts at = Fit (last_of image) (rows_of parts) (drop at lines)

-- up to the count of entries, which is this
pub record HasHead (image : Content) (lines : List (List ℕ)) (entries : ℕ) : Type 0 where
  pub fit : FitAt image lines (head_parts image) 0
  pub count : Counts name.History lines (history_at image) entries

-- up to the count of events, which is this
pub record HasHistory (image : Content) (lines : List (List ℕ)) (entries events : ℕ) : Type 0 where
  pub head : HasHead image lines entries
  pub fit : FitAt image lines (history_parts entries) (history_at image + 1)
  pub count : Counts name.Schedule lines (schedule_at image entries) events

-- all lines are those of a report with so many entries and events
pub record HasForm (image : Content) (lines : List (List ℕ)) (entries events : ℕ) : Type 0 where
  pub history : HasHistory image lines entries events
  pub fit : FitAt image lines (schedule_parts events) (schedule_at image entries + 1)
  pub whole : length lines ≡ length_of image entries events

-- the rows of some parts begin at a place, and the line with this number is the first of theirs that is
-- missing or of another form
pub record FaultyAt (image : Content) (lines : List (List ℕ)) (parts : List Part) (at number : ℕ) : Type 0
  where
    pub before : ℕ
    pub fault : Faulty (last_of image) (rows_of parts) (drop at lines) before
    pub counted : number ≡ at + before

-- no count stands at a place
pub record LacksCount (n : Name) (lines : List (List ℕ)) (at number : ℕ) : Type 0 where
  pub none : (count : ℕ) → ¬ Counts n lines at count
  pub counted : number ≡ at + 1

-- the line with this number, counted from 1, is the first that is missing, of another form, or too many; the
-- two counts are believed where they stand
pub data IsFirstFault (image : Content) (lines : List (List ℕ)) (number : ℕ) : Type 0 where
  in_head : FaultyAt image lines (head_parts image) 0 number → IsFirstFault image lines number
  no_history : FitAt image lines (head_parts image) 0
      → LacksCount name.History lines (history_at image) number → IsFirstFault image lines number
  in_history : (entries : ℕ) → HasHead image lines entries
      → FaultyAt image lines (history_parts entries) (history_at image + 1) number
      → IsFirstFault image lines number
  no_schedule : (entries : ℕ) → HasHead image lines entries
      → FitAt image lines (history_parts entries) (history_at image + 1)
      → LacksCount name.Schedule lines (schedule_at image entries) number → IsFirstFault image lines number
  in_schedule : (entries events : ℕ) → HasHistory image lines entries events
      → FaultyAt image lines (schedule_parts events) (schedule_at image entries + 1) number
      → IsFirstFault image lines number
  too_many : (entries events : ℕ) → HasHistory image lines entries events
      → FitAt image lines (schedule_parts events) (schedule_at image entries + 1)
      → length_of image entries events < length lines → number ≡ length_of image entries events + 1
      → IsFirstFault image lines number

-- what a reader answers
abbrev pub IsRefused : Content → List (List ℕ) → FormFault → Type 0
IsRefused image lines Memory = Unit {0}
IsRefused image lines (Line number) = IsFirstFault image lines number

pub record IsSheet (image : Content) (lines : List (List ℕ)) (s : Sheet) : Type 0 where
  pub events : ℕ
  pub form : HasForm image lines s.entries events
  pub begins : s.history.line ≡ history_at image + 1

-- the count of entries and the entries begin where the sheet says
pub record HasPlaces (text : List ℕ) (s : Sheet) : Type 0 where
  pub count : IsPlace text s.count
  pub history : IsNext text s.count s.history
