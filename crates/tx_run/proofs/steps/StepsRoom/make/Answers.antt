-- There is no step.
use Rattle.std.proofs.Common.{refl}
use Rattle.tx_run.proofs.Beginning.{opened-lent}
use Rattle.tx_run.proofs.steps.StepsRoom.make.Goals as goal

pub returns : goal.returns
returns c text =
    let room = c.args.self in
    opened-lent text c.args.bytes.now _ room.start_so room.reached_so refl c.fill.ensures.bytes c.fill.ensures.untouched
    record { stored = room.stored; pages = room.pages } room.none
