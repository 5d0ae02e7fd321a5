-- What a run has to agree in with its machine to be taken, and what is taken.
use Rattle.std.specs.Prelude.{◌≡◌, ℕ, ◌+◌, ◌≤◌, ◌++◌, Bool, true, List, [], length, replicate}
use Rattle.tx_journal.specs.declared.events.Event.TheVariants.{Turn}
use Rattle.tx_meaning.specs.Flat.{at_put}
use Rattle.tx_works.specs.Local.{Local, Beside}
use Rattle.tx_works.specs.Parts.{local_of}
use Rattle.tx_works.specs.Marks.{mode_in}
use Rattle.tx_works.specs.Own.{given, is_touched}
use Rattle.tx_works.specs.Traces.{is_paged}
use Rattle.tx_works.specs.Stranger.{GoesOnLike, SeeAlike}
use Rattle.tx_works.specs.Turns.{MayMake, steps_of}
use Rattle.tx_meaning.specs.Limits.{RunLimits, Setting}
use Rattle.tx_meaning.specs.State.{Numbers}
use Rattle.tx_works.specs.Kept.{Kept, text_of, with_beside, with_state}
use Rattle.tx_works.specs.RunLent.{Lent}
use Rattle.tx_works.specs.RunMade.{AgreeOnPages}
use Rattle.tx_works.specs.Works.{Works}
use Rattle.tx_home.specs.Places.{may_go}

-- As many instructions are completed, the turns can be made, and the stop queue is empty.
pub record AreAlikeInNumbers (same : Bool) (limits : RunLimits) (r : Lent) (waits : List ℕ) (l : Local) (n : Numbers) : Type 0 where
  pub completed : n.completed ≡ (local_of r.made.start).attempt.count
  pub attempt : same ≡ true
  pub goes : may_go limits r.made.steps l n ≡ true
  pub queue : waits ≡ []

-- The machine's CPU goes on like the one that was lent, sees what the run has seen before its first step, has the same text
-- pages where the run has looked, holds what it needed, and may have as many turns.
pub record MayTake (m : Setting) (r : Lent) (t : Kept) : Type 0 where
  pub like : GoesOnLike (local_of r.made.start).attempt (t.locals r.cpu).attempt
  pub alike : SeeAlike (is_touched r.made.own) (local_of r.made.start).attempt.overlay (given r.made.own)
      (t.locals r.cpu).attempt.overlay t.storage
  pub pages : AgreeOnPages (is_paged r.made.traces) r.text (text_of m)
  pub may : MayMake m r.cpu r.made.steps (mode_in r.made.needed) t

-- there is room for so many events and entries more
pub record HasRoomFor (k : ℕ) (w : Works) : Type 0 where
  pub events : length w.events + k ≤ w.events_room
  pub history : length w.history + k ≤ w.room

-- so many turns of a CPU are recorded, and where no attempt is live as many steps in the history
abbrev pub with_turns_noted : Bool → ℕ → ℕ → Works → Works
with_turns_noted live i k w = record w {
  events = w.events ++ replicate k (Turn i);
  history = w.history ++ steps_of live i k;
}

-- so many turns more are counted of a CPU, which is left so, with storage
abbrev pub left_by : ℕ → ℕ → Beside → Kept → Kept
left_by i k after t =
    let n = t.state.numbers i in
    let numbers = record n { completed = after.local.attempt.count; turns = n.turns + k } in
    with_beside i after (with_state (record t.state { numbers = at_put t.state.numbers i numbers }) t)
