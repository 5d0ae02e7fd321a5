use Rattle.std.proofs.Common.{◌≡◌, take, map}
use Rattle.z_fields.specs.SmallEvent.{event_in}
use Rattle.z_fields.proofs.small_event.all_events.Given as goal

abbrev pub invariant-loop-event : goal.invariant-loop-event
invariant-loop-event l = l.all.items ≡ map event_in (take l.event-index l.events)
