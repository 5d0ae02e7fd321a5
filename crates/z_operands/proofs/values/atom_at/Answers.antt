use Rattle.std.proofs.Common.{◌∙◌, sym, ap}
use Rattle.z_text.specs.declared.token.TokenKind.TheVariants.{Star}
use Rattle.z_operands.specs.declared.operand.Atom.TheVariants.{Value}
use Rattle.z_operands.proofs.Atoms.{value_here}
use Rattle.z_operands.proofs.values.atom_at.Goals as goal

pub returns-in-Some-clause-atom : goal.returns-in-Some-clause-atom
returns-in-Some-clause-atom c =
    ap Value c.value_at.ensures
    ∙ value_here c.args.line.now c.args.tokens.now c.args.at c.in-Some.end c.args.labels.now c.args.here
    (record { first = 0; end = 0; kind = Star }) c.requires.at
    (sym c.expression_end.ensures.value ∙ c.in-Some.is)
