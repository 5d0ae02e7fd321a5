use Rattle.std.proofs.Common.{◌≡◌, ℕ, List, length, Some}
use Rattle.std.specs.Prelude.{slice_get}
use Rattle.tx_journal.specs.declared.entries.Entry.{Entry}
use Rattle.tx_flat.specs.Machine.{state_of}
use Rattle.tx_replay.specs.Ends.{AreEnds}
use Rattle.tx_check.specs.declared.writing.Seen.{Seen}
use Rattle.tx_check.specs.Lines.{lines_of}
use Rattle.tx_check.specs.Told.{IsTold}
use Rattle.tx_check.specs.Sound.{IsTaken, cpu_place}
use Rattle.tx_check.specs.Seen.{shown_seen}
use Rattle.tx_check.proofs.telling.seen_cpus.Given as goal

abbrev pub invariant-loop-cpu : goal.invariant-loop-cpu
invariant-loop-cpu l = record {
  count : length l.seen.items ≡ l.cpu;
  told : (history : List Entry) → AreEnds history (length l.image.cpus) l.replayed.ends
      → (i : ℕ) (s : Seen) → slice_get l.seen.items i ≡ Some s
      → IsTold (state_of l.replayed.flat) history i (shown_seen s);
  taken : (i : ℕ) (s : Seen) → slice_get l.seen.items i ≡ Some s
      → IsTaken (lines_of l.report) (cpu_place i) (state_of l.replayed.flat) i (shown_seen s);
}
