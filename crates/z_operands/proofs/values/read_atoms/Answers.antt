use Rattle.std.proofs.Common.{◌∙◌, sym, ap, ◌++◌, append-nil}
use Rattle.z_text.specs.Labels.{value_in}
use Rattle.z_operands.specs.Values.{value_in_line}
use Rattle.z_operands.proofs.Atoms.{atoms_pushed, no_atoms}
use Rattle.z_operands.proofs.values.read_atoms.Goals as goal

pub loop-at-preserved : goal.loop-at-preserved
loop-at-preserved c = record {
  within = c.atom_at-atom.ensures.within;
  same =
      rw c.in_ok-push.ensures.items
      (atoms_pushed (value_in_line c.args.line.now (value_in c.args.labels.now) c.args.here) c.args.tokens.now
      c.loop-at.at c.atom_at-atom.result.1 c.loop-at.atoms.items _ _ c.loop-at-test.true
      c.atom_at-atom.ensures.atom c.atom_at-atom.ensures.end c.loop-at.invariant.same);
}

pub returns : goal.returns
returns c =
    let v = value_in_line c.args.line.now (value_in c.args.labels.now) c.args.here in
    sym (append-nil c.loop-at.atoms.items) ∙ (ap (λ rest. c.loop-at.atoms.items ++ rest)
    (sym (no_atoms v c.args.tokens.now c.loop-at.at c.loop-at-test.false)) ∙ c.loop-at.invariant.same)
