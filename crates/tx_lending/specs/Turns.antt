-- Turns that were made away, as turns of the machine that keeps.
use Rattle.std.specs.Prelude.{◌≡◌, ℕ, ◌+◌, ◌<◌, ◌≤◌, Bool, true, false, if◌then◌else◌, List, [], ◌++◌, replicate}
use Rattle.std.specs.Prelude.{Option, None}
use Rattle.line_table.specs.declared.table.Mode.{Mode}
use Rattle.tx_journal.specs.declared.entries.Entry.{Entry}
use Rattle.tx_journal.specs.declared.entries.Entry.TheVariants.{Step}
use Rattle.tx_journal.specs.declared.events.Event.TheVariants.{Turn}
use Rattle.tx_serial.specs.Apply.{is_running}
use Rattle.tx_serial.specs.Flat.{at_put}
use Rattle.tx_progress.specs.Local.{Beside}
use Rattle.tx_meaning.specs.Asking.{is_there}
use Rattle.tx_meaning.specs.Limits.{Setting}
use Rattle.tx_meaning.specs.State.{is_live}
use Rattle.tx_meaning.specs.Turn.{is_tick}
use Rattle.tx_keeping.specs.Kept.{Kept, with_state, with_beside}

-- A CPU of the machine may have so many turns with nothing but its next instructions in them: no block and no
-- interruption is left, it runs and does not wait, the stop queue is empty, and it has the turns, with no tick among
-- them. What is needed it holds.
pub record MayMake (m : Setting) (i k : ℕ) (needed : ℕ → Option Mode) (t : Kept) : Type 0 where
  pub pending : (t.locals i).pending ≡ None
  pub waiting : (t.locals i).waiting ≡ None
  pub runs : is_running (t.locals i).attempt.cpu.state ≡ true
  pub completed : (t.state.numbers i).completed ≡ (t.locals i).attempt.count
  pub delay : (t.state.numbers i).delay ≡ 0
  pub queue : t.state.queue ≡ []
  pub turns : (t.state.numbers i).turns + k ≤ m.limits.turns
  pub ticks : (j : ℕ) → j < k → is_tick m.limits ((t.state.numbers i).turns + j + 1) ≡ false
  pub held : (line : ℕ) (mode : Mode) → is_there mode (needed line) ≡ true
      → is_there mode (t.state.held i line) ≡ true

-- outside transactions each instruction is an entry of its own
abbrev pub steps_of : Bool → ℕ → ℕ → List Entry
steps_of live i k = if live then [] else replicate k (Step i)

-- the machine with so many turns of a CPU, which have left this of it and of storage
abbrev pub with_turns : ℕ → ℕ → Beside → Kept → Kept
with_turns i k after t =
    let n = t.state.numbers i in
    let numbers = record n { completed = after.local.attempt.count; turns = n.turns + k } in
    with_beside i after
    (with_state (record t.state {
      history = t.state.history ++ steps_of (is_live t.state i) i k;
      events = t.state.events ++ replicate k (Turn i);
      numbers = at_put t.state.numbers i numbers;
    }) t)
