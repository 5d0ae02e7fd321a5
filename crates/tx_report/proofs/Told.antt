-- What is handed over for a report is what a state shows.
use Rattle.std.proofs.Common.{◌≡◌, List, map, refl}
use Rattle.tx_journal.specs.declared.entries.Entry.{Entry}
use Rattle.tx_journal.specs.declared.events.Event.{Event}
use Rattle.tx_journal.specs.declared.image.Show.{Show}
use Rattle.report_text.specs.declared.processors.Processor.{Processor}
use Rattle.report_text.specs.Shown.{shown_cpu, shown_of}
use Rattle.tx_serial.specs.Flat.{bytes_of}
use Rattle.tx_meaning.specs.Limits.{Setting}
use Rattle.tx_meaning.specs.State.{State, flat_of}
use Rattle.tx_report.specs.Shown.{cpus_shown, shown_in}

pub told : (m : Setting) (s : State) (processors : List Processor) (shows : List Show)
    (history : List Entry) (events : List Event)
    → map shown_cpu processors ≡ cpus_shown m s → shows ≡ m.image.shows → history ≡ s.history
    → events ≡ s.events
    → shown_of processors shows (bytes_of (flat_of m s).storage) history events ≡ shown_in m s
told m s processors shows history events cpus shown entries recorded =
    rw (cpus, shown, entries, recorded) refl
