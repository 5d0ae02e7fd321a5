-- What holds of a run of the machine, behind each of its events.
use Rattle.std.specs.Prelude.{◌≡◌, ℕ, ◌+◌, ◌*◌, ◌<◌, ◌≤◌, ◌⊎◌, true, false, List, [], ◌∷◌, ◌++◌}
use Rattle.std.specs.Prelude.{None}
use Rattle.std.specs.List.{list_any}
use Rattle.tx_journal.specs.Image.{cpu_of_event}
use Rattle.tx_journal.specs.declared.events.Event.{Event}
use Rattle.tx_serial.specs.History.{IsLegal}
use Rattle.tx_meaning.specs.Limits.{Setting}
use Rattle.tx_meaning.specs.Meaning.{meaning}
use Rattle.tx_meaning.specs.State.{State, is_head, cpus_of}
use Rattle.tx_meaning.specs.Turn.{happen}
use Rattle.tx_meaning.specs.Hits.{hits}
use Rattle.tx_ladder.specs.Waiting.{waits_in}
use Rattle.tx_report.specs.Opacity.{SeesOneRun}
use Rattle.tx_headline.specs.Queue.{QueueChanges, others_before}
use Rattle.tx_headline.specs.Since.{Opens, IsUninterrupted, CommitsAfter, is_program_abort_of}
use Rattle.tx_headline.specs.Since.{entries_since, turns_after, all_turns_after}
use Rattle.tx_meaning.specs.Queues.{QueueMoves}
use Rattle.tx_meaning.specs.Stretches.{stretch_of, left, bound, attempt_turns}
use Rattle.tx_meaning.specs.Stretches.{counted, is_counted_turn, is_end_of}
use Rattle.tx_meaning.specs.Heads.{head_turns}
use Rattle.run_answers.specs.Replayed.{IsReplayed}
use Rattle.tx_meaning.specs.Views.{GoesOnWith, KeepsViews, HoldsTouched}

-- the state behind an event that comes after others
abbrev pub behind : Setting → List Event → Event → State
behind m before e = (happen m e (meaning m before)).state

-- No CPU has more conflict aborts than lead to the stop queue. While a CPU is in the middle of a constrained
-- transaction, a turn is left to it, and the turns that it has had in it and those that it can still need stay
-- within the bound, and within those of one attempt more for each interruption from outside. So those that it
-- has had are fewer.
pub record IsBounded (m : Setting) (events : List Event) : Type 0 where
  pub few : (i : ℕ) → hits m.image (meaning m events).history i ≤ m.image.parms.stop
  pub some_left : (i : ℕ) → (stretch_of m events i).is_open ≡ true → 1 ≤ left m (meaning m events) i
  pub turns : (i : ℕ) → (stretch_of m events i).is_open ≡ true
      → (stretch_of m events i).age + left m (meaning m events) i
      ≤ bound m.image.parms + attempt_turns m.image.parms * (stretch_of m events i).externals
  pub ages : (i : ℕ) → (stretch_of m events i).is_open ≡ true
      → (stretch_of m events i).age
      < bound m.image.parms + attempt_turns m.image.parms * (stretch_of m events i).externals

-- An event comes: the history only grows, no live attempt sees a mixed state, but one private run at every
-- moment, and the stop queue changes at its ends alone, for the reasons that there are. Fewer CPUs stand before
-- one that waits than the machine has, and while any waits only the head has turns. The head is never rejected,
-- and as the head it has at most 34 turns, unless it is interrupted from outside.
pub record IsOrderly (m : Setting) (before : List Event) (e : Event) : Type 0 where
  pub grows : GoesOnWith (meaning m before).history (behind m before e).history
  pub views : KeepsViews m (meaning m before) (behind m before e)
  pub opaque : SeesOneRun m (meaning m before) (behind m before e)
  pub queue : QueueMoves (meaning m before).queue (behind m before e).queue
  pub reasons : QueueChanges m (meaning m before) e
  pub behind_few : (i : ℕ) → waits_in (meaning m before).queue i ≡ true
      → others_before i (meaning m before).queue < cpus_of m
  pub head_alone : (i : ℕ) → is_counted_turn m (meaning m before) e i ≡ true
      → ((meaning m before).queue ≡ []) ⊎ (is_head (meaning m before) i ≡ true)
  pub unrejected : is_head (meaning m before) (cpu_of_event e) ≡ true
      → (happen m e (meaning m before)).reject ≡ None
  pub heads : (i : ℕ) → head_turns m before i + counted (is_counted_turn m (meaning m before) e i) ≤ 34

-- The history of the events is one serial history: each entry fits on flat storage in its place, and what is
-- shown is what a replay of it leaves. What live attempts have touched is held, and the retry ladder keeps its
-- bounds.
pub record IsSerial (m : Setting) (events : List Event) : Type 0 where
  pub legal : IsLegal m.image (meaning m events).history
  pub shown : IsReplayed m (meaning m events)
  pub held : HoldsTouched m (meaning m events)
  pub bounded : IsBounded m events

-- Where an event has opened a constrained transaction of a CPU, no interruption from outside has come to the CPU
-- since then and no program interruption of it has been written, and it has had as many counted turns as the
-- bound, it has committed, with no more aborts than lead to the stop queue, all of them by conflicts.
abbrev pub CommitsInTime : Setting → List Event → Event → List Event → Type 0
CommitsInTime m before e since =
    (i : ℕ) → Opens m before e i → IsUninterrupted m (before ++ e ∷ []) since i
    → list_any (is_program_abort_of i) (entries_since m (before ++ e ∷ []) since) ≡ false
    → turns_after m before i + bound m.image.parms ≤ turns_after m ((before ++ e ∷ []) ++ since) i
    → CommitsAfter m.image.parms.stop i (entries_since m (before ++ e ∷ []) since)

-- Where no interruption from outside has come to any CPU, one in the stop queue has ended its transaction once
-- there were 34 counted turns of the whole machine for itself and for each CPU that stood before it.
abbrev pub ServesAll : Setting → List Event → List Event → Type 0
ServesAll m before since =
    (i : ℕ) → ((j : ℕ) → j < cpus_of m → IsUninterrupted m before since j)
    → waits_in (meaning m before).queue i ≡ true
    → all_turns_after m before + 34 * (others_before i (meaning m before).queue + 1)
    ≤ all_turns_after m (before ++ since)
    → list_any (is_end_of i) (entries_since m before since) ≡ true

-- The same behind each event of a run, and each event is orderly. Constrained transactions commit in time, and
-- the stop queue serves all.
pub record IsSerialRun (m : Setting) (events : List Event) : Type 0 where
  pub whole : IsSerial m events
  pub each : (before rest : List Event) (e : Event) → events ≡ before ++ e ∷ rest
      → IsSerial m (before ++ e ∷ []) × IsOrderly m before e
  pub commits : (before since rest : List Event) (e : Event) → events ≡ ((before ++ e ∷ []) ++ since) ++ rest
      → CommitsInTime m before e since
  pub serves : (before since rest : List Event) → events ≡ (before ++ since) ++ rest → ServesAll m before since
