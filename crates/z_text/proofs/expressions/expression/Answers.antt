use Rattle.std.proofs.Common.{sym, subst}
use Rattle.z_text.specs.Expressions.{HasCause}
use Rattle.z_text.proofs.Causes.{has_cause}
use Rattle.z_text.proofs.expressions.expression.Goals as goal

pub returns-clause-cause : goal.returns-clause-cause
returns-clause-cause c =
    subst (λ r. HasCause c.args.text.now c.args.tokens.now c.args.at c.args.labels.now r)
    (sym c.value_at.ensures.value)
    (has_cause c.args.text.now c.args.tokens.now c.args.at c.args.labels.now c.args.here c.requires.tokens
    c.requires.at)
