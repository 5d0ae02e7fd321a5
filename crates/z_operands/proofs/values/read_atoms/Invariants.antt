use Rattle.std.proofs.Common.{◌≡◌, ◌++◌, ◌≤◌, ◌-◌, length, drop}
use Rattle.z_text.specs.Labels.{value_in}
use Rattle.z_operands.specs.Operands.{atoms_from}
use Rattle.z_operands.specs.Values.{value_in_line}
use Rattle.z_operands.proofs.values.read_atoms.Given as goal

abbrev pub invariant-loop-at : goal.invariant-loop-at
invariant-loop-at l = record {
  within : l.at ≤ length l.tokens;
  same : l.atoms.items ++ atoms_from (value_in_line l.line (value_in l.labels) l.here) 0
      (drop l.at l.tokens) ≡ atoms_from (value_in_line l.line (value_in l.labels) l.here) 0
      (drop l.first l.tokens);
}

abbrev pub decreases-loop-at : goal.decreases-loop-at
decreases-loop-at l = length l.tokens - l.at
