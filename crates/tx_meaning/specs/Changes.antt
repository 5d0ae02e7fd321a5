-- What single things that happen change of the numbers, the queue, the holders and the history.
use Rattle.std.specs.Prelude.{ℕ, ◌+◌, ◌-◌, Bool, true, false, ◌&&◌, ◌||◌, not, ◌==◌, nat_lt, is_some}
use Rattle.std.specs.Prelude.{if◌then◌else◌, List, [], ◌∷◌, ◌++◌, Option, Some, None}
use Rattle.std.specs.List.{list_any, filter, range_with_len}
use Rattle.tx_control.specs.declared.causes.Why.{Why}
use Rattle.tx_control.specs.declared.causes.Why.TheVariants.{External, Program, FetchConflict}
use Rattle.tx_control.specs.declared.causes.Why.TheVariants.{StoreConflict, FetchOverflow, StoreOverflow}
use Rattle.tx_control.specs.declared.causes.Why.TheVariants.{Restricted, Filtered, Depth, Starved, Tabort}
use Rattle.interrogate.specs.Touched.{Sets}
use Rattle.tx_ladder.specs.Rungs.{Standing, rejecting, rejected, next_rung}
use Rattle.tx_ladder.specs.declared.ladder.Next.{Next}
use Rattle.tx_ladder.specs.declared.ladder.Next.TheVariants.{Plain, Delay, Queue}
use Rattle.tx_serial.specs.Entry.{Entry}
use Rattle.tx_serial.specs.Entry.TheVariants as entry
use Rattle.tx_serial.specs.Event.{Event}
use Rattle.line_table.specs.declared.table.Mode.{Mode}
use Rattle.line_table.specs.declared.table.Mode.TheVariants.{Shared, Exclusive}
use Rattle.line_table.specs.Sizes.{storage_lines, held_limit}
use Rattle.line_table.specs.Holders.{Holders, holding, lines_held}
use Rattle.tx_serial.specs.Flat.{at_put}
use Rattle.tx_meaning.specs.declared.asking.Need.{Need}
use Rattle.tx_meaning.specs.State.{Numbers, State}

abbrev pub with_numbers : ℕ → Numbers → State → State
with_numbers i numbers s = record s { numbers = at_put s.numbers i numbers }

abbrev pub with_entry : Entry → State → State
with_entry e s = record s { history = s.history ++ e ∷ [] }

abbrev pub with_event : Event → State → State
with_event e s = record s { events = s.events ++ e ∷ [] }

-- ---- questions and answers

-- a CPU has put one more question
abbrev pub asking : ℕ → State → State
asking i s = let n = s.numbers i in with_numbers i (record n { asked = n.asked + 1 }) s

-- a holder that stands like this on its ladder gives one more reject
abbrev pub rejecting_one : ℕ → Standing → State → State
rejecting_one j holder s =
    let n = s.numbers j in
    with_numbers j (record n { given = (rejecting holder).rejects_given }) s

-- a request of a CPU that stands like this was rejected; it counts for its live attempt, where it has one
abbrev pub rejected_once : ℕ → Bool → Standing → State → State
rejected_once i live asker s =
    let n = s.numbers i in
    let refused = if live then (rejected asker).requests_rejected else n.refused in
    with_numbers i (record n { rejected = n.rejected + 1; refused = refused }) s

-- for a shared request the holder keeps the line in shared mode, for an exclusive one it gives it up
abbrev pub left_to : Mode → Option Mode
left_to Shared = Some Shared
left_to Exclusive = None

abbrev pub yielding : ℕ → ℕ → Mode → State → State
yielding j line mode s = record s { held = holding s.held j line (left_to mode) }

-- ---- a line is granted

abbrev pub is_needed : List Need → ℕ → Bool
is_needed needs line = list_any (λ need. need.line == line) needs

-- a line that the CPU may give up: it holds it, but neither its attempt nor this turn needs it
abbrev pub is_spare : Holders → ℕ → Sets → List Need → ℕ → Bool
is_spare held i footprint needs line =
    is_some (held i line) && not ((footprint.fetched line || footprint.stored line) || is_needed needs line)

abbrev pub lowest : List ℕ → Option ℕ
lowest [] = None
lowest (line ∷ rest) = Some line

abbrev pub spare_line : Holders → ℕ → Sets → List Need → Option ℕ
spare_line held i footprint needs =
    lowest (filter (is_spare held i footprint needs) (range_with_len 0 storage_lines))

abbrev pub giving_up : Holders → ℕ → Option ℕ → Holders
giving_up held i None = held
giving_up held i (Some line) = holding held i line None

-- before one line more than it may hold, the CPU gives up the lowest that it may
abbrev pub with_room : Bool → Holders → ℕ → Sets → List Need → Holders
with_room true held i footprint needs = held
with_room false held i footprint needs = giving_up held i (spare_line held i footprint needs)

abbrev pub has_room : Holders → ℕ → ℕ → Bool
has_room held i line = is_some (held i line) || nat_lt (lines_held held i) held_limit

unfoldable pub granting : ℕ → Sets → List Need → Need → Holders → Holders
granting i footprint needs need held =
    holding (with_room (has_room held i need.line) held i footprint needs) i need.line (Some need.mode)

-- ---- the queue

abbrev pub without_head : ℕ → List ℕ → List ℕ
without_head i [] = []
without_head i (head ∷ rest) = if head == i then rest else head ∷ rest

abbrev pub head_to_tail : ℕ → List ℕ → List ℕ
head_to_tail i [] = []
head_to_tail i (head ∷ rest) = if head == i then rest ++ head ∷ [] else head ∷ rest

-- ---- the end of an attempt

-- what comes after a conflict abort
abbrev pub on_rung : ℕ → Next → State → State
on_rung i Plain s = s
on_rung i (Delay turns) s = with_numbers i (record (s.numbers i) { delay = turns }) s
on_rung i Queue s = record s { queue = s.queue ++ i ∷ [] }

-- the constrained transaction is at its end: its CPU leaves the queue
abbrev pub leaving : ℕ → Bool → State → State
leaving i constrained s = record s { queue = if constrained then without_head i s.queue else s.queue }

abbrev pub after_cause : ℕ → Standing → Why → State → State
after_cause i standing (FetchConflict line) s = on_rung i (next_rung standing) s
after_cause i standing (StoreConflict line) s = on_rung i (next_rung standing) s
after_cause i standing Starved s = on_rung i (next_rung standing) s
after_cause i standing (Program e) s = leaving i standing.constrained s
after_cause i standing External s = s
after_cause i standing FetchOverflow s = s
after_cause i standing StoreOverflow s = s
after_cause i standing Restricted s = s
after_cause i standing (Filtered e) s = s
after_cause i standing Depth s = s
after_cause i standing (Tabort code) s = s

abbrev pub without_attempt : ℕ → State → State
without_attempt i s = with_numbers i (record (s.numbers i) { completed = 0 }) s

-- the attempt of a CPU that stands like this is aborted for a cause, after so many instructions
unfoldable pub aborting : ℕ → Standing → ℕ → Why → State → State
aborting i standing n why s =
    with_entry (entry.Abort i n why) (after_cause i standing why (without_attempt i s))

-- it is committed, after so many instructions
abbrev pub committing : ℕ → Bool → ℕ → State → State
committing i constrained n s = with_entry (entry.Commit i n) (leaving i constrained (without_attempt i s))

-- it is begun
abbrev pub starting : ℕ → State → State
starting i s =
    let n = s.numbers i in
    with_numbers i (record n { completed = 1; attempts = n.attempts + 1; given = 0; refused = 0 }) s

-- it goes on
abbrev pub continuing : ℕ → State → State
continuing i s = let n = s.numbers i in with_numbers i (record n { completed = n.completed + 1 }) s

-- ---- turns

abbrev pub counting_turn : ℕ → State → State
counting_turn i s = let n = s.numbers i in with_numbers i (record n { turns = n.turns + 1 }) s

abbrev pub waiting_turn : ℕ → State → State
waiting_turn i s = let n = s.numbers i in with_numbers i (record n { delay = n.delay - 1 }) s

abbrev pub delaying : ℕ → ℕ → State → State
delaying i turns s = with_numbers i (record (s.numbers i) { delay = turns }) s
