-- Which turns and entries of a run are looked at.
use Rattle.std.specs.Prelude.{ℕ, ◌+◌, ◌-◌, List, length, take, min}
use Rattle.tx_journal.specs.declared.events.Event.{Event}
use Rattle.tx_meaning.specs.Limits.{Setting}
use Rattle.tx_meaning.specs.Meaning.{meaning}
use Rattle.tx_watch.specs.declared.window.Window.{Window}

-- how many of so many recorded turns come before the window, and how many it has: at most 2,000
abbrev pub start_of : Window → ℕ → ℕ
start_of w recorded = min (w.first - 1) recorded

abbrev pub turns_in : Window → ℕ → ℕ
turns_in w recorded = min (min w.last recorded - start_of w recorded) 2000

-- how many entries the history has behind the first so many events
abbrev pub entries_behind : Setting → List Event → ℕ → ℕ
entries_behind m events k = length (meaning m (take k events)).history

-- how many entries the history has gained in the turns of the window
abbrev pub entries_in : Window → Setting → List Event → ℕ
entries_in w m events =
    let start = start_of w (length events) in
    entries_behind m events (start + turns_in w (length events)) - entries_behind m events start
