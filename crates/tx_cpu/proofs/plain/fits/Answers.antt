-- There is room for one line more and for two blocks.
use Rattle.tx_footprint.specs.Touched.{sets_of}
use Rattle.tx_cpu.proofs.Room.{fits-with-room}
use Rattle.tx_cpu.proofs.plain.fits.Goals as goal

pub returns-then-has_room : goal.returns-then-has_room
returns-then-has_room c there =
    fits-with-room (sets_of c.args.attempt.now.footprint) c.args.shape c.args.first c.requires
    (c.if-has_room.ensures.lines there) (c.if-has_room.ensures.blocks there)
