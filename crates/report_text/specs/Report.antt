-- The report of a run.
use Rattle.std.specs.Prelude.{ℕ, List, ◌++◌, length, if◌then◌else◌, codes}
use Rattle.std.specs.List.{list_all}
use Rattle.tx_journal.specs.declared.entries.Entry.{Entry}
use Rattle.tx_journal.specs.declared.events.Event.{Event}
use Rattle.tx_journal.specs.declared.image.Show.{Show}
use Rattle.tx_journal.specs.Lines.{history_text}
use Rattle.tx_journal.specs.Schedule.{schedule_text}
use Rattle.report_text.specs.Digits.{number_line}
use Rattle.report_text.specs.Shown.{Shown, ShownCpu}
use Rattle.report_text.specs.Processor.{cpus_text}
use Rattle.report_text.specs.Storage.{shows_text}

-- 0 where every CPU is finished, else 6
abbrev pub status_of : List ShownCpu → ℕ
status_of cpus = if list_all (λ c. c.finished) cpus then 0 else 6

unfoldable pub head_lines : ℕ → List ℕ
head_lines status = codes "ZTX REPORT\n" ++ number_line (codes "STATUS ") status

-- how many entries the history has, and their lines
unfoldable pub history_lines : List Entry → List ℕ
history_lines history = number_line (codes "HISTORY ") (length history) ++ history_text history

-- how many events were recorded, and the lines of the listing that give them
unfoldable pub schedule_lines : List Event → List ℕ
schedule_lines events = number_line (codes "SCHEDULE ") (length events) ++ schedule_text events

-- the state at the end, and how it came about
unfoldable pub state_part : List ShownCpu → List Show → List ℕ → List ℕ
state_part cpus shows storage =
    head_lines (status_of cpus) ++ (cpus_text cpus ++ shows_text storage shows)

unfoldable pub run_part : List Entry → List Event → List ℕ
run_part history events = history_lines history ++ (schedule_lines events ++ codes "END\n")

-- the whole report
unfoldable pub report_text : Shown → List ℕ
report_text s = state_part s.cpus s.shows s.storage ++ run_part s.history s.events
