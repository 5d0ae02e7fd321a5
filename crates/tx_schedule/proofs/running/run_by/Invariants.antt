-- The turns that are left lead where all of them were to lead.
use Rattle.std.proofs.Common.{◌-◌}
use Rattle.tx_meaning.specs.Meaning.{meaning_from}
use Rattle.tx_meaning.specs.Schedules.{turns_from}
use Rattle.tx_machine.specs.Machine.{setting_of, state_of}
use Rattle.tx_schedule.specs.Next.{choosing_by}
use Rattle.tx_schedule.proofs.Runs.{Leads}
use Rattle.tx_schedule.proofs.running.run_by.Given as goal

abbrev pub invariant-loop : goal.invariant-loop
invariant-loop g l =
    let seen = g.R.Runnable.seen in
    let m = setting_of (seen l.fn.runner) in
    let s = state_of (seen l.fn.runner) in
    Leads m (meaning_from m (turns_from l.most m (choosing_by l.fn.order) s) s) (choosing_by l.order)
    (l.most - l.counter) (seen l.runner)
