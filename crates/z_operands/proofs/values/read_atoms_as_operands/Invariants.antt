use Rattle.std.proofs.Common.{◌≡◌, ◌++◌, length, option_map}
use Rattle.z_operands.specs.Operands.{operands_from}
use Rattle.z_operands.proofs.values.read_atoms_as_operands.Given as goal

abbrev pub invariant-loop-rest : goal.invariant-loop-rest
invariant-loop-rest l = option_map (λ os. l.operands.items ++ os)
    (operands_from 0 l.rest) ≡ operands_from 0 l.atoms

abbrev pub decreases-loop-rest : goal.decreases-loop-rest
decreases-loop-rest l = length l.rest
