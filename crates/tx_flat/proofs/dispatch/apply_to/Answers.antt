use Rattle.std.proofs.Common.{sym, subst}
use Rattle.std.specs.FinSet.{items}
use Rattle.tx_journal.specs.declared.entries.Entry.{Entry}
use Rattle.tx_serial.specs.Apply.{apply}
use Rattle.tx_flat.specs.Machine.{of_cpu}
use Rattle.tx_flat.specs.Slots.{IsApplied}
use Rattle.tx_flat.proofs.dispatch.apply_to.Goals as goal

pub returns-in-Tdb-clause-applied : goal.returns-in-Tdb-clause-applied
returns-in-Tdb-clause-applied c =
    subst (λ (e : Entry). IsApplied (λ f i. apply f (of_cpu e i)) (items c.args.guard.now) c.args.storage.now
    c.store_block.new.storage c.args.slot.now c.store_block.new.slot c.store_block.result) (sym c.in-Tdb.is)
    (c.store_block.ensures.applied (items c.args.guard.now))

pub returns-in-Interrupt-clause-applied : goal.returns-in-Interrupt-clause-applied
returns-in-Interrupt-clause-applied c =
    subst (λ (e : Entry). IsApplied (λ f i. apply f (of_cpu e i)) (items c.args.guard.now) c.args.storage.now
    c.take.new.storage c.args.slot.now c.take.new.slot c.take.result) (sym c.in-Interrupt.is)
    (c.take.ensures.applied (items c.args.guard.now))
