use Rattle.tx_flat.proofs.Machines.{CopiedUpTo}
use Rattle.tx_flat.proofs.flat.same_pages.Given as goal

abbrev pub invariant-loop-page : goal.invariant-loop-page
invariant-loop-page l = CopiedUpTo l.guard l.pages l.page
