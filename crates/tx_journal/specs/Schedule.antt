-- Events as lines of the listing.
use Rattle.std.specs.Prelude.{ℕ, ◌<◌, ◌^◌, zero, suc, ◌+◌, ◌*◌, ◌/◌, List, [], ◌∷◌, ◌++◌, length, take, drop}
use Rattle.std.specs.Prelude.{codes}
use Rattle.std.specs.List.{flat_map}
use Rattle.std.specs.Fmt.{decimal}
use Rattle.tx_journal.specs.declared.events.Event.{Event}
use Rattle.tx_journal.specs.declared.events.Event.TheVariants.{Turn, External}

-- the CPU, behind an X where the event is an external interruption
abbrev pub event_text : Event → List ℕ
event_text (Turn cpu) = decimal cpu
event_text (External cpu) = codes "X" ++ decimal cpu

-- events, each behind a comma
abbrev pub further_text : List Event → List ℕ
further_text events = flat_map (λ (e : Event). codes "," ++ event_text e) events

-- events with commas between them
abbrev pub events_text : List Event → List ℕ
events_text [] = []
events_text (e ∷ es) = event_text e ++ further_text es

-- events as one line
abbrev pub row_text : List Event → List ℕ
row_text events = codes " SCHED " ++ (events_text events ++ codes "\n")

-- the first so many lines, of sixteen events each but the last, which has what is left
abbrev pub rows_text : List Event → ℕ → List ℕ
rows_text events zero = []
rows_text events (suc k) = rows_text events k ++ row_text (take 16 (drop (16 * k) events))

-- all events, sixteen to a line; no line where there is none
abbrev pub schedule_text : List Event → List ℕ
schedule_text events = rows_text events ((length events + 15) / 16)

-- the CPU's number fits 32 bits
abbrev pub IsNumbered : Event → Type 0
IsNumbered (Turn cpu) = cpu < 2 ^ 32
IsNumbered (External cpu) = cpu < 2 ^ 32
