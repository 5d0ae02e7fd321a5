use Rattle.tx_journal.proofs.Pictures.{AreAlike}
use Rattle.tx_journal.proofs.image.are_same_cpus.Given as goal

abbrev pub invariant-loop-i : goal.invariant-loop-i
invariant-loop-i l = AreAlike l.some l.others l.i
