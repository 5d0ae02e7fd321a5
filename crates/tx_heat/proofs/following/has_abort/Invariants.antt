-- None of the entries so far tells of an abort.
use Rattle.std.proofs.Common.{◌≡◌, take}
use Rattle.tx_heat.specs.Watched.{aborts}
use Rattle.tx_heat.proofs.following.has_abort.Given as goal

abbrev pub invariant-loop-entry : goal.invariant-loop-entry
invariant-loop-entry l = aborts (take l.entry-index l.entries) ≡ 0
