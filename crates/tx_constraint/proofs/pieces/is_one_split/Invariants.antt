use Rattle.std.proofs.Common.{◌≡◌, false, take}
use Rattle.std.specs.List.{list_any}
use Rattle.tx_constraint.specs.Constraints.{is_split}
use Rattle.tx_constraint.proofs.pieces.is_one_split.Given as goal

abbrev pub invariant-loop-i : goal.invariant-loop-i
invariant-loop-i l = list_any (is_split l.unit) (take l.i l.touches) ≡ false
