use Rattle.std.proofs.Common.{◌≡◌, drop}
use Rattle.z_operands.specs.Operands.{fields_from}
use Rattle.z_operands.proofs.instruction.fields_from.Given as goal

abbrev pub invariant-loop-at : goal.invariant-loop-at
invariant-loop-at l = fields_from l.here (drop l.at l.slots)
    (drop l.at l.operands) l.fields ≡ fields_from l.here l.slots l.operands l.fn.start
