use Rattle.std.proofs.Common.{◌≡◌, drop}
use Rattle.z_operands.specs.Operands.{has_form}
use Rattle.z_operands.proofs.instruction.has_form.Given as goal

abbrev pub invariant-loop-at : goal.invariant-loop-at
invariant-loop-at l = has_form (drop l.at l.slots) (drop l.at l.operands) ≡ has_form l.slots l.operands
