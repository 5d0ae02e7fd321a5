-- The first one is not passed.
use Rattle.std.proofs.Common.{◌≡◌}
use Rattle.tx_meaning.specs.Schedules.{ready_cpus}
use Rattle.tx_machine.specs.Machine.{setting_of, state_of}
use Rattle.tx_schedule.specs.Next.{first_at}
use Rattle.tx_schedule.proofs.choosing.first_ready.Given as goal

abbrev pub invariant-loop-next : goal.invariant-loop-next
invariant-loop-next l =
    let ready = ready_cpus (setting_of l.machine) (state_of l.machine) in
    first_at l.next ready ≡ first_at l.from ready
