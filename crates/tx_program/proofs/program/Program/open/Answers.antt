-- Before the first instruction nothing is read.
use Rattle.std.proofs.Common.{List, subst, sym}
use Rattle.std.specs.FinSet.{items}
use Rattle.tx_program.specs.declared.ready.Ready.{Ready}
use Rattle.tx_program.specs.Numbered.{AreRead}
use Rattle.tx_program.proofs.program.Program.open.Goals as goal

pub add_all-requires : goal.add_all-requires
add_all-requires c =
    subst (λ (xs : List Ready). AreRead c.deref.result.now.storage (items c.deref.result.now.guard)
    c.in_ok-numbers.numbers.items xs) (sym c.new-readies.ensures.items)
    (c.in_ok-numbers.ensures c.deref.result.now.storage (items c.deref.result.now.guard))
