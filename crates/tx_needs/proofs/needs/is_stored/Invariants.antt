-- No range so far stores into the line.
use Rattle.std.proofs.Common.{◌≡◌, false, take}
use Rattle.std.specs.Prelude.{◌&&◌}
use Rattle.std.specs.List.{list_any}
use Rattle.tx_meaning.specs.Needs.{has_line}
use Rattle.tx_needs.proofs.needs.is_stored.Given as goal

abbrev pub invariant-loop-i : goal.invariant-loop-i
invariant-loop-i l = list_any (λ r. r.store && has_line l.line r) (take l.i l.ranges) ≡ false
