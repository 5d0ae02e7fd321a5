use Rattle.std.proofs.Common.{◌≡◌, false, take}
use Rattle.std.specs.List.{list_any}
use Rattle.tx_constraint.specs.Bytes.{touches_own_page}
use Rattle.tx_constraint.proofs.pieces.is_one_near.Given as goal

abbrev pub invariant-loop-i : goal.invariant-loop-i
invariant-loop-i l = list_any (touches_own_page l.begin) (take l.i l.touches) ≡ false
