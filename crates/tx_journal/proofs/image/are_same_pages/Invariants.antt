use Rattle.tx_journal.proofs.Pictures.{AgreeUpTo}
use Rattle.tx_journal.proofs.image.are_same_pages.Given as goal

abbrev pub invariant-loop-page : goal.invariant-loop-page
invariant-loop-page l = AgreeUpTo l.some l.others l.page
