-- The report and the short summary of events, of a machine that starts from its image.
use Rattle.std.specs.Prelude.{ℕ, List, [], ◌∷◌}
use Rattle.report_text.specs.Report as text
use Rattle.report_text.specs.Summary.{summary_text}
use Rattle.report_text.specs.Storage.{number_at}
use Rattle.tx_gen.specs.Programs.{counter_at}
use Rattle.tx_journal.specs.declared.events.Event.{Event}
use Rattle.tx_serial.specs.Flat.{bytes_of}
use Rattle.tx_meaning.specs.Limits.{Setting}
use Rattle.tx_meaning.specs.Meaning.{meaning}
use Rattle.tx_meaning.specs.State.{State, flat_of}
use Rattle.tx_report.specs.Shown.{shown_in, cpus_shown}

-- 0 where every CPU is finished after the events, else 6
unfoldable pub status_of : Setting → List Event → ℕ
status_of m events = text.status_of (cpus_shown m (meaning m events))

unfoldable pub report_of : Setting → List Event → List ℕ
report_of m events = text.report_text (shown_in m (meaning m events))

-- the doubleword in storage at an absolute address
abbrev pub doubleword_at : Setting → State → ℕ → ℕ
doubleword_at m s address = number_at (bytes_of (flat_of m s).storage) address 8

-- the values of the four counters in the generator's listing of a number
abbrev pub counters_in : ℕ → Setting → State → List ℕ
counters_in number m s =
    doubleword_at m s (counter_at number 0) ∷ doubleword_at m s (counter_at number 1)
    ∷ doubleword_at m s (counter_at number 2) ∷ doubleword_at m s (counter_at number 3) ∷ []

unfoldable pub summary_of : ℕ → Setting → List Event → List ℕ
summary_of number m events =
    let s = meaning m events in summary_text number (cpus_shown m s) (counters_in number m s)
