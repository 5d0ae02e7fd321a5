-- Each CPU that is passed is not ready.
use Rattle.std.proofs.Common.{◌<◌, ◌≤◌, sym, ◌∙◌, arith}
use Rattle.tx_meaning.specs.Idle.{is_ready}
use Rattle.tx_meaning.specs.Schedules.{ready_cpus}
use Rattle.tx_meaning.specs.State.{cpus_of}
use Rattle.tx_machine.specs.Machine.{setting_of, state_of}
use Rattle.tx_schedule.proofs.Chosen.{first_here, first_past, none_behind}
use Rattle.tx_schedule.proofs.choosing.first_ready.Goals as goal

pub returns-then-ready-clause-value : goal.returns-then-ready-clause-value
unfolding ready_cpus
returns-then-ready-clause-value c =
    let m = setting_of c.args.machine.now in
    let test = is_ready m (state_of c.args.machine.now) in
    let known : c.loop-next.next < cpus_of m = omega arith in
    sym (first_here test (cpus_of m) c.loop-next.next (sym c.ready.ensures ∙ c.if-ready.true) known)
    ∙ c.loop-next.invariant

pub loop-next-preserved : goal.loop-next-preserved
unfolding ready_cpus
loop-next-preserved c =
    let m = setting_of c.args.machine.now in
    let test = is_ready m (state_of c.args.machine.now) in
    sym (first_past test (cpus_of m) c.loop-next.next (sym c.ready.ensures ∙ c.if-ready.false))
    ∙ c.loop-next.invariant

pub returns-clause-value : goal.returns-clause-value
unfolding ready_cpus
returns-clause-value c =
    let m = setting_of c.args.machine.now in
    let test = is_ready m (state_of c.args.machine.now) in
    let behind : cpus_of m ≤ c.loop-next.next = omega arith in
    sym (none_behind test (cpus_of m) c.loop-next.next behind) ∙ c.loop-next.invariant
