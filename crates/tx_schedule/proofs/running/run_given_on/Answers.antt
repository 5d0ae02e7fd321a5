-- Event by event.
use Rattle.std.proofs.Common.{◌≡◌, ◌<◌, ◌≤◌, ◌∙◌, Some, length, ap, subst, arith}
use Rattle.std.specs.Prelude.{slice_get}
use Rattle.tx_meaning.specs.Limits.{Setting}
use Rattle.tx_machine.specs.Machine.{Seen}
use Rattle.tx_schedule.proofs.Runs.{follows_first, follows_on, follows_all, may_come}
use Rattle.tx_schedule.proofs.running.run_given_on.Goals as goal

pub loop-place-init : goal.loop-place-init
loop-place-init g c = follows_first (g.R.Runnable.seen c.args.runner.now) c.requires.unused

pub given_at-event-requires : goal.given_at-event-requires
given_at-event-requires g c =
    let follows = c.loop-place.invariant in
    let same = ap (λ (m : Setting). length m.image.schedule) follows.setting in
    let count = c.given_count-place-end.ensures ∙ ap (λ (m : Seen). length m.image.schedule) c.machine.ensures in
    let seen = ap (λ (m : Seen). length m.image.schedule) c.machine-in-loop-place.ensures in
    omega (arith, same, count, seen)

pub take_event-requires-clause-known : goal.take_event-requires-clause-known
take_event-requires-clause-known g c =
    let seen = ap (λ (m : Seen). length m.image.cpus) c.machine-in-loop-place.ensures in
    let known = c.given_at-event.ensures.known in
    omega (arith, seen, known)

pub take_event-requires-clause-external : goal.take_event-requires-clause-external
take_event-requires-clause-external g c external =
    let follows = c.loop-place.invariant in
    let start = g.R.Runnable.seen c.args.runner.now in
    let same = ap (λ (m : Setting). m.image.schedule) follows.setting in
    let count = c.given_count-place-end.ensures ∙ ap (λ (m : Seen). length m.image.schedule) c.machine.ensures in
    let within : c.loop-place.place < length start.image.schedule = omega (arith, count) in
    let given = subst (λ (m : Seen). slice_get m.image.schedule c.loop-place.place ≡ Some c.given_at-event.result)
    c.machine-in-loop-place.ensures c.given_at-event.ensures.event in
    let few = may_come _ _ c.loop-place.place c.given_at-event.result within
    (g.R.Runnable.seen c.loop-place.runner) given follows same external in
    let limit = ap (λ (m : Setting). m.limits.externals) follows.setting in
    let allowed = c.requires.externals in
    omega (arith, few, limit, allowed)

pub loop-place-preserved : goal.loop-place-preserved
loop-place-preserved g c =
    let follows = c.loop-place.invariant in
    let start = g.R.Runnable.seen c.args.runner.now in
    let same = ap (λ (m : Setting). m.image.schedule) follows.setting in
    let count = c.given_count-place-end.ensures ∙ ap (λ (m : Seen). length m.image.schedule) c.machine.ensures in
    let within : c.loop-place.place < length start.image.schedule = omega (arith, count) in
    let given = subst (λ (m : Seen). slice_get m.image.schedule c.loop-place.place ≡ Some c.given_at-event.result)
    c.machine-in-loop-place.ensures c.given_at-event.ensures.event in
    follows_on _ _ c.loop-place.place c.given_at-event.result within (g.R.Runnable.seen c.loop-place.runner)
    given follows same (g.R.Runnable.seen c.take_event.new.self) c.take_event.ensures.machine
    c.take_event.ensures.state

pub returns : goal.returns
returns g c =
    let start = g.R.Runnable.seen c.args.runner.now in
    let count = c.given_count-place-end.ensures ∙ ap (λ (m : Seen). length m.image.schedule) c.machine.ensures in
    let all : length start.image.schedule ≤ c.loop-place.place = omega (arith, count) in
    follows_all start (g.R.Runnable.seen c.loop-place.runner) c.loop-place.place all c.loop-place.invariant
