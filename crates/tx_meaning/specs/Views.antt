-- What is said of the machine over all events: what an event leaves of a live attempt, and what is held for it.
use Rattle.std.specs.Prelude.{◌≡◌, ℕ, ◌/◌, ◌<◌, true, ◌||◌, List, ◌++◌, All, Some, is_some}
use Rattle.line_table.specs.declared.table.Mode.TheVariants.{Exclusive}
use Rattle.line_table.specs.Holders.{IsSound}
use Rattle.interrogate.specs.Sizes.{line_size}
use Rattle.tx_serial.specs.Image.{cpu_of_event}
use Rattle.tx_serial.specs.Entry.{Entry}
use Rattle.tx_serial.specs.Event.{Event}
use Rattle.tx_serial.specs.Alike.{track_of}
use Rattle.tx_serial.specs.Attempt.{Run, footprint}
use Rattle.tx_meaning.specs.Limits.{Setting}
use Rattle.tx_meaning.specs.State.{State, is_live, attempt_of, footprint_of, cpus_of}

-- the events are of CPUs that there are
abbrev pub AreKnown : Setting → List Event → Type 0
AreKnown m events = All (λ e. cpu_of_event e < cpus_of m) events

-- a history goes on with more entries
pub record GoesOnWith (history after : List Entry) : Type 0 where
  pub more : List Entry
  pub is : history ++ more ≡ after

-- two runs show the same: the CPU, the stores, the open begins, all that they touched and all their steps,
-- and the same byte at each absolute address in a line that they touched
pub record IsSameView (p q : Run) : Type 0 where
  pub shows : track_of q ≡ track_of p
  pub bytes : (a : ℕ) → ((footprint p).fetched (a / line_size) || (footprint p).stored (a / line_size)) ≡ true
      → q.copy a ≡ p.copy a

-- each attempt that is live, and has completed as many instructions after an event as before it, sees the same
abbrev pub KeepsViews : Setting → State → State → Type 0
KeepsViews m before after =
    (i : ℕ) → is_live before i ≡ true → (after.numbers i).completed ≡ (before.numbers i).completed
    → IsSameView (attempt_of m before i) (attempt_of m after i)

-- holders are sound, and hold what live attempts have touched, by their private runs: what is stored
-- exclusively, what is fetched at least shared
pub record HoldsTouched (m : Setting) (s : State) : Type 0 where
  pub sound : IsSound s.held
  pub stored : (i line : ℕ) → (footprint_of m s i).stored line ≡ true → s.held i line ≡ Some Exclusive
  pub fetched : (i line : ℕ) → (footprint_of m s i).fetched line ≡ true → is_some (s.held i line) ≡ true
