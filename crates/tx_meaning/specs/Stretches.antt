-- How many turns a constrained transaction has had, and how many it can still need.
use Rattle.std.specs.Prelude.{ℕ, ◌+◌, ◌*◌, ◌-◌, Bool, true, false, ◌&&◌, ◌==◌}
use Rattle.std.specs.Prelude.{nat_lt, if◌then◌else◌, drop, length, sum_by, List, [], ◌∷◌}
use Rattle.std.specs.List.{list_any, range_with_len}
use Rattle.tx_control.specs.declared.causes.Why.{Why}
use Rattle.tx_control.specs.declared.causes.Why.TheVariants as why
use Rattle.tx_ladder.specs.Parameters.{Parameters}
use Rattle.tx_ladder.specs.Rungs.{delay_after}
use Rattle.tx_serial.specs.Entry.{Entry}
use Rattle.tx_serial.specs.Entry.TheVariants.{Step, Commit, Abort, Tdb, Interrupt}
use Rattle.tx_serial.specs.Event.{Event}
use Rattle.tx_serial.specs.Event.TheVariants.{Turn, External}
use Rattle.tx_meaning.specs.Limits.{Setting}
use Rattle.tx_meaning.specs.State.{State, beginning, is_live, standing_of}
use Rattle.tx_meaning.specs.Idle.{is_ready}
use Rattle.tx_meaning.specs.Turn.{happen, is_tick}

-- ---- a stretch: from the first begin of a constrained transaction to its end

-- whether one is open for a CPU, the counted turns that the CPU has had in it, and the external interruptions
-- that came to the CPU in it
pub record Stretch : Type 0 where
  pub is_open : Bool
  pub age : ℕ
  pub externals : ℕ

abbrev pub closed : Stretch
closed = record { is_open = false; age = 0; externals = 0 }

abbrev pub counted : Bool → ℕ
counted true = 1
counted false = 0

-- ---- what an event is to a CPU

-- a turn that counts
abbrev pub is_counted_turn : Setting → State → Event → ℕ → Bool
is_counted_turn m s (Turn j) i = j == i && is_ready m s i
is_counted_turn m s (External j) i = false

-- an interruption from outside, by an event or by a tick
abbrev pub is_interrupted_by : Setting → State → Event → ℕ → Bool
is_interrupted_by m s (Turn j) i = (j == i && is_ready m s i) && is_tick m.limits ((s.numbers i).turns + 1)
is_interrupted_by m s (External j) i = j == i

-- a constrained attempt of the CPU starts
abbrev pub starts_attempt : Setting → State → State → ℕ → Bool
starts_attempt m s t i =
    nat_lt (s.numbers i).attempts (t.numbers i).attempts && (is_live t i && (standing_of m t i).constrained)

-- an entry that ends a transaction of the CPU: a commit, or a program interruption
abbrev pub is_end_by : Why → Bool
is_end_by (why.Program e) = true
is_end_by w = false

abbrev pub is_end_of : ℕ → Entry → Bool
is_end_of i (Commit j n) = j == i
is_end_of i (Abort j n w) = j == i && is_end_by w
is_end_of i (Step j) = false
is_end_of i (Tdb j) = false
is_end_of i (Interrupt j) = false

abbrev pub new_entries : State → State → List Entry
new_entries s t = drop (length s.history) t.history

abbrev pub ends_transaction : State → State → ℕ → Bool
ends_transaction s t i = list_any (is_end_of i) (new_entries s t)

-- ---- the stretch after events

abbrev pub opened : Stretch
opened = record { is_open = true; age = 1; externals = 0 }

abbrev pub extended : Setting → State → Event → ℕ → Stretch → Stretch
extended m s e i stretch = record {
  is_open = true;
  age = stretch.age + counted (is_counted_turn m s e i);
  externals = stretch.externals + counted (is_interrupted_by m s e i);
}

abbrev pub stretch_after : Setting → State → Event → ℕ → Stretch → Stretch
stretch_after m s e i stretch =
    let t = (happen m e s).state in
    if stretch.is_open then (if ends_transaction s t i then closed else extended m s e i stretch)
    else (if starts_attempt m s t i then opened else closed)

unfoldable pub stretch_from : Setting → ℕ → List Event → State → Stretch → Stretch
stretch_from m i [] s stretch = stretch
stretch_from m i (e ∷ rest) s stretch =
    stretch_from m i rest (happen m e s).state (stretch_after m s e i stretch)

abbrev pub stretch_of : Setting → List Event → ℕ → Stretch
stretch_of m events i = stretch_from m i events beginning closed

-- ---- how many turns can still be needed

-- the most instructions of a constrained attempt, its begin and its end among them
abbrev pub most_completed : ℕ
most_completed = 34

-- the turns of one attempt, and of the delay behind an abort
abbrev pub attempt_turns : Parameters → ℕ
attempt_turns parms = most_completed + parms.starve

abbrev pub later_rungs : Parameters → ℕ → ℕ
later_rungs parms aborts =
    sum_by (λ b. delay_after parms b + attempt_turns parms)
    (range_with_len (aborts + 1) (parms.stop - 1 - aborts))

-- by the conflict aborts, the delay left, and the completed instructions and rejected requests of the live
-- attempt
abbrev pub left_by : Parameters → ℕ → ℕ → ℕ → ℕ → ℕ
left_by parms aborts delay completed refused =
    if nat_lt aborts parms.stop
    then (attempt_turns parms - completed - refused + delay + later_rungs parms aborts + most_completed)
    else (most_completed - completed)

abbrev pub left : Setting → State → ℕ → ℕ
left m s i =
    let n = s.numbers i in
    left_by m.image.parms (standing_of m s i).aborts n.delay n.completed
    (if is_live s i then n.refused else 0)

-- the turns that a constrained transaction needs at most, where nothing interrupts it
abbrev pub bound : Parameters → ℕ
bound parms =
    parms.stop * attempt_turns parms
    + sum_by (delay_after parms) (range_with_len 1 (parms.stop - 1))
    + most_completed
