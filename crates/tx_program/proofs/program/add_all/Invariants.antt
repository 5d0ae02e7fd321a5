-- What has been read so far stands where it is read.
use Rattle.std.specs.FinSet.{items}
use Rattle.tx_program.specs.Numbered.{AreRead}
use Rattle.tx_program.proofs.program.add_all.Given as goal

abbrev pub invariant-loop-start : goal.invariant-loop-start
invariant-loop-start l = AreRead l.image.storage (items l.image.guard) l.numbers.items l.readies.items
