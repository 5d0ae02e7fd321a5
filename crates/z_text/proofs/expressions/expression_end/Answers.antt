use Rattle.std.proofs.Common.{sym, subst}
use Rattle.z_text.specs.Expressions.{IsLongest}
use Rattle.z_text.proofs.Longest.{longest}
use Rattle.z_text.proofs.expressions.expression_end.Goals as goal

pub returns-clause-longest : goal.returns-clause-longest
returns-clause-longest c = subst (λ r. IsLongest c.args.tokens.now c.args.at r) (sym c.end_of.ensures.value)
    (longest c.args.tokens.now c.args.at c.requires)
