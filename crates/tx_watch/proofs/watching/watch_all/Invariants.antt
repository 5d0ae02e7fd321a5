-- So many events more have happened, each with its mark, and each entry that they made has its place.
use Rattle.std.proofs.Common.{◌≡◌, ◌+◌, ◌≤◌, length}
use Rattle.tx_step.specs.Machine.{state_of}
use Rattle.tx_watch.specs.Replay.{Replays}
use Rattle.tx_watch.proofs.watching.watch_all.Given as goal

abbrev pub invariant-loop-column : goal.invariant-loop-column
invariant-loop-column l = record {
  replays : Replays l.machine (l.start + l.column) l.replay;
  marks : length l.picture.marks.items ≡ length l.fn.picture.marks.items + l.column;
  entries : length l.picture.entries.items + length (state_of l.fn.replay).history
      ≡ length l.fn.picture.entries.items + length (state_of l.replay).history;
  more : length l.fn.picture.entries.items ≤ length l.picture.entries.items;
}
