-- Without a prefix the operands lie where their addresses say.
use Rattle.std.proofs.Common.{ap, sym, ◌∙◌}
use Rattle.tx_marks.specs.Marks.{mode_in, first_missing}
use Rattle.tx_run.proofs.Unmoved.{small-unmoved, unmoved-needs}
use Rattle.tx_run.proofs.steps.Steps.missing.Goals as goal

pub missing-requires-clause-small : goal.missing-requires-clause-small
missing-requires-clause-small c = small-unmoved _ c.args.need.now c.requires.within.accessible

pub returns-in-None : goal.returns-in-None
returns-in-None c =
    c.missing.ensures
    ∙ ap (λ needs. first_missing needs (mode_in c.args.held.now))
    (sym (unmoved-needs _ c.args.need.now (sym c.prefix.ensures.value ∙ c.in-None.is)))
