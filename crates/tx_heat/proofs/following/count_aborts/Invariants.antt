-- The aborts that the entries so far tell of are counted.
use Rattle.std.proofs.Common.{ℕ, ◌+◌, List, ◌++◌, take}
use Rattle.std.specs.List.{flat_map}
use Rattle.tx_journal.specs.Image.{cpu_of_event}
use Rattle.tx_journal.specs.declared.events.Event.{Event}
use Rattle.tx_meaning.specs.Limits.{Setting}
use Rattle.tx_meaning.specs.State.{State}
use Rattle.tx_heat.specs.Conflicts.{Conflict, aborts_by}
use Rattle.tx_heat.specs.Watched.{AreTracks, SpeaksFor, AreCounted, HasRoom}
use Rattle.tx_heat.proofs.following.count_aborts.Given as goal

abbrev pub invariant-loop-entry : goal.invariant-loop-entry
invariant-loop-entry l = record {
  counted : (m : Setting) (s : State) (e : Event) (found : List Conflict) → AreTracks m s l.tracks
      → SpeaksFor m s (cpu_of_event e) l.asked → AreCounted l.fn.lines found
      → AreCounted l.lines (found ++ flat_map (aborts_by m s e) (take l.entry-index l.entries));
  room : (n : ℕ) → HasRoom l.fn.lines (n + l.entry-index) → HasRoom l.lines n;
}
