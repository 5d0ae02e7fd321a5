-- Events in one byte each.
use Rattle.std.specs.Prelude.{◌-◌, nat_lt, if◌then◌else◌}
use Rattle.tx_journal.specs.declared.events.Event.{Event}
use Rattle.tx_journal.specs.declared.events.Event.TheVariants.{Turn, External}
use Rattle.z_fields.specs.declared.small_event.SmallEvent.{SmallEvent}

-- the event of a byte: a turn of the CPU below 16, or from 16 on an external interruption
unfoldable pub event_in : SmallEvent → Event
event_in e = if nat_lt e.code 16 then Turn e.code else External (e.code - 16)
