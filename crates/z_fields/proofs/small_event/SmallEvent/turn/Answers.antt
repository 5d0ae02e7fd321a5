-- The event of the byte.
use Rattle.std.proofs.Common.{refl}
use Rattle.z_fields.proofs.SmallEvents.{turn_in}
use Rattle.z_fields.proofs.small_event.SmallEvent.turn.Goals as goal

pub returns : goal.returns
returns c = turn_in _ c.args.cpu refl c.requires
