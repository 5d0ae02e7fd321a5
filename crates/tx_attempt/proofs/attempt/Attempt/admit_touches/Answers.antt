-- Accessible operands are in storage.
use Rattle.std.proofs.Common.{subst, sym}
use Rattle.std.specs.Prelude.{All}
use Rattle.tx_footprint.specs.Places.{IsInStorage}
use Rattle.tx_serial.proofs.Reached.{ranges_in_storage}
use Rattle.tx_attempt.proofs.attempt.Attempt.admit_touches.Goals as goal

pub fits-requires : goal.fits-requires
fits-requires c =
    subst (All IsInStorage) (sym c.absolute.ensures)
    (ranges_in_storage c.args.prefix c.args.need.now c.requires.prefix_in c.requires.accessible)
