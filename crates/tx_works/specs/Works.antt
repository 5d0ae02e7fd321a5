-- What a machine keeps: of each CPU, of storage and of what was written down; and what this stands for.
use Rattle.std.specs.Prelude.{◌≡◌, ℕ, ◌≤◌, List, length, get_or}
use Rattle.tx_ladder.specs.Rungs.{Standing}
use Rattle.tx_journal.specs.declared.entries.Entry.{Entry}
use Rattle.tx_journal.specs.declared.events.Event.{Event}
use Rattle.tx_lines.specs.Parts.{Parts, local_of}
use Rattle.tx_lines.specs.Owned.{Owned, storage_in, holders_in}
use Rattle.tx_meaning.specs.State.{Numbers}
use Rattle.tx_keeping.specs.Kept.{Kept}
use Rattle.tx_works.specs.declared.slot.Tally.{Tally}

-- one CPU: it with its attempt, where it stands on the retry ladder, and what is counted of it
pub record Seat : Type 0 where
  pub cpu : Parts
  pub ladder : Standing
  pub tally : Tally

-- the CPUs, storage with the holders of its lines, the stop queue, what was written down, and how many entries
-- and events there is room for
pub record Works : Type 0 where
  pub slots : List Seat
  pub lines : Owned
  pub queue : List ℕ
  pub history : List Entry
  pub events : List Event
  pub room : ℕ
  pub events_room : ℕ

-- the lines and the queue are for as many CPUs as there are
pub record IsFitted (cpus of_lines of_queue : ℕ) : Type 0 where
  pub few : cpus ≤ 16
  pub lines : of_lines ≡ cpus
  pub queue : of_queue ≡ cpus

-- ---- what that stands for

abbrev pub numbers_of : Seat → Numbers
numbers_of s = record {
  completed = (local_of s.cpu).attempt.count;
  attempts = s.tally.attempts;
  given = s.ladder.rejects_given;
  refused = s.ladder.requests_rejected;
  delay = s.tally.delay;
  turns = s.tally.turns;
  asked = s.tally.asked;
  rejected = s.tally.rejected;
}

-- by a table of all CPUs
abbrev pub kept_from : (ℕ → Seat) → Works → Kept
kept_from seats w = record {
  state = record {
    history = w.history;
    events = w.events;
    queue = w.queue;
    held = holders_in w.lines;
    numbers = λ i. numbers_of (seats i);
  };
  storage = storage_in w.lines;
  locals = λ i. local_of (seats i).cpu;
  standings = λ i. (seats i).ladder;
}

-- behind the last CPU stands a seat that nobody takes
abbrev pub seats_of : Seat → List Seat → ℕ → Seat
seats_of rest slots i = get_or slots i rest

abbrev pub kept_by : Seat → Works → Kept
kept_by rest w = kept_from (seats_of rest w.slots) w

-- ---- what never changes

-- as many CPUs, and as much room
pub record IsSameSize (old new : Works) : Type 0 where
  pub cpus : length new.slots ≡ length old.slots
  pub room : new.room ≡ old.room
  pub events_room : new.events_room ≡ old.events_room

-- besides, nothing is written down
pub record KeepsBooks (old new : Works) : Type 0 where
  pub size : IsSameSize old new
  pub history : new.history ≡ old.history
  pub events : new.events ≡ old.events
