-- One more for each entry.
use Rattle.std.proofs.Common.{◌≡◌, ◌+◌, length}
use Rattle.tx_watch.proofs.watching.add_entries.Given as goal

abbrev pub invariant-loop-row : goal.invariant-loop-row
invariant-loop-row l = length l.entries.items ≡ length l.fn.entries.items + l.row
