use Rattle.std.proofs.Common.{◌≡◌, map, drop}
use Rattle.z_fields.specs.Schedule.{with_items}
use Rattle.z_fields.specs.SmallEvent.{event_in}
use Rattle.z_fields.proofs.schedule.with_items.Given as goal

abbrev pub invariant-loop-item : goal.invariant-loop-item
invariant-loop-item l = with_items l.cpus (map (λ x. x.now) (drop l.item-index l.items))
    (map event_in l.events.items) ≡ with_items l.cpus (map (λ x. x.now) l.items) (map event_in l.fn.events.items)
