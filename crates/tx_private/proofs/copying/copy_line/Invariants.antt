use Rattle.std.proofs.Common.{◌*◌}
use Rattle.tx_private.proofs.Turned.{Copied}
use Rattle.tx_private.proofs.copying.copy_line.Given as goal

abbrev pub invariant-loop-item : goal.invariant-loop-item
invariant-loop-item l = Copied l.from l.initial.to l.to (256 * l.line) (256 * l.from_line) (8 * l.item)
