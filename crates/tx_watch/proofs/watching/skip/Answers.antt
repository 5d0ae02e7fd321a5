-- One event more.
use Rattle.std.proofs.Common.{◌<◌, length, arith}
use Rattle.tx_watch.proofs.Replaying.{replays_on, may_happen}
use Rattle.tx_watch.proofs.watching.skip.Goals as goal

pub event-outcome-requires-clause-external : goal.event-outcome-requires-clause-external
event-outcome-requires-clause-external c external =
    let within : c.loop-place.place < length c.args.machine.now.events = omega arith in
    may_happen c.args.machine.now c.loop-place.place c.loop-place.replay c.loop-place.invariant
    c.event_at-event.result within c.event_at-event.ensures.event external c.event_at-event.ensures.few

pub loop-place-preserved : goal.loop-place-preserved
loop-place-preserved c =
    let within : c.loop-place.place < length c.args.machine.now.events = omega arith in
    replays_on c.args.machine.now c.loop-place.place c.loop-place.replay c.loop-place.invariant
    c.event_at-event.result within c.event_at-event.ensures.event c.event-outcome.new.self
    c.event-outcome.ensures.machine c.event-outcome.ensures.state
