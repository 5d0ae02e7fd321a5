-- A slot for one CPU more.
use Rattle.std.proofs.Common.{sym, subst}
use Rattle.z_regs.specs.Cpu.{cpu_of}
use Rattle.std.proofs.Common.{map, take, ◌+◌}
use Rattle.tx_machine.specs.Opened.{AreUnused}
use Rattle.tx_machine.proofs.Opened.{one_more_slot}
use Rattle.tx_machine.proofs.opening.slots_of.Goals as goal

pub loop-start-preserved : goal.loop-start-preserved
loop-start-preserved c =
    subst (AreUnused c.args.parms (map cpu_of (take (c.loop-start.start-index + 1) c.args.cpus.now)))
    (sym c.in_ok-push.ensures.items)
    (one_more_slot c.args.parms c.args.cpus.now c.loop-start.start-index c.start-item.result c.loop-start.slots.items
    c.in_ok-slot.slot c.loop-start-test.true (sym c.start-item.is) c.loop-start.invariant c.in_ok-slot.ensures.cpu
    c.in_ok-slot.ensures.unused)
