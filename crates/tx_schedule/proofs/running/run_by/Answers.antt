-- Turn by turn.
use Rattle.std.proofs.Common.{◌≡◌, ◌+◌, ◌-◌, suc, subst, arith, Some, None}
use Rattle.tx_meaning.specs.Schedules.{ready_cpus}
use Rattle.tx_machine.specs.Machine.{Seen, setting_of, state_of}
use Rattle.tx_schedule.specs.Next.{choosing_by, next_among}
use Rattle.tx_schedule.proofs.Runs.{at_last, none_left, leads_on}
use Rattle.tx_schedule.proofs.running.run_by.Goals as goal

pub returns-in-None-clause-state : goal.returns-in-None-clause-state
returns-in-None-clause-state g c =
    let choosing = choosing_by c.loop.order in
    none_left _ _ choosing (c.args.most - c.loop.counter) (g.R.Runnable.seen c.loop.runner) c.loop.invariant
    (subst (λ (m : Seen). None ≡ next_among choosing (ready_cpus (setting_of m) (state_of m))) c.machine.ensures
    c.in-None.ensures.cpu)

pub loop-preserved : goal.loop-preserved
loop-preserved g c =
    let now = c.args.most - c.loop.counter in
    let left = c.args.most - (c.loop.counter + 1) in
    let one : now ≡ suc left = omega arith in
    let choosing = choosing_by c.loop.order in
    leads_on _ _ choosing now left (g.R.Runnable.seen c.loop.runner) (g.R.Runnable.seen c.take_turn.new.self)
    c.in-Some.cpu (choosing_by c.next.new.self) one c.loop.invariant
    (subst (λ (m : Seen). Some c.in-Some.cpu ≡ next_among choosing (ready_cpus (setting_of m) (state_of m)))
    c.machine.ensures c.in-Some.ensures.cpu) c.in-Some.ensures.order
    c.take_turn.ensures.machine c.take_turn.ensures.state

pub returns-clause-state : goal.returns-clause-state
returns-clause-state g c =
    let now = c.args.most - c.loop.counter in
    let none : now ≡ 0 = omega arith in
    at_last _ _ (choosing_by c.loop.order) now (g.R.Runnable.seen c.loop.runner) none c.loop.invariant
