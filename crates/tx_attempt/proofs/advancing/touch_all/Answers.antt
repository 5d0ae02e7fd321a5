-- What is touched is that by absolute addresses.
use Rattle.std.proofs.Common.{sym, subst}
use Rattle.std.specs.Prelude.{All}
use Rattle.tx_footprint.specs.Places.{IsInStorage}
use Rattle.tx_serial.proofs.Reached.{ranges_in_storage}
use Rattle.tx_attempt.proofs.advancing.touch_all.Goals as goal

pub add-requires-clause-in_storage : goal.add-requires-clause-in_storage
add-requires-clause-in_storage c =
    subst (All IsInStorage) (sym c.absolute.ensures)
    (ranges_in_storage c.args.prefix c.args.need.now c.requires.prefix_in c.requires.accessible)
