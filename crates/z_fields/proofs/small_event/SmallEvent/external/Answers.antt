-- The event of the byte.
use Rattle.std.proofs.Common.{refl}
use Rattle.z_fields.proofs.SmallEvents.{external_in}
use Rattle.z_fields.proofs.small_event.SmallEvent.external.Goals as goal

pub returns : goal.returns
returns c = external_in _ c.args.cpu refl
