use Rattle.std.proofs.Common.{◌≡◌, ◌++◌, map, replicate}
use Rattle.z_fields.specs.SmallEvent.{event_in}
use Rattle.z_fields.proofs.schedule.push_many.Given as goal

abbrev pub invariant-loop-turn : goal.invariant-loop-turn
invariant-loop-turn l = map event_in l.events.items
    ≡ map event_in l.fn.events.items ++ replicate l.turn (event_in l.event)
