-- Without a prefix the operands lie where their addresses say.
use Rattle.std.proofs.Common.{ap, sym, ◌∙◌}
use Rattle.tx_marks.specs.Marks.{mode_in, with_needs}
use Rattle.tx_marks.specs.Needs.{needs_of}
use Rattle.tx_run.specs.Made.{Made}
use Rattle.tx_run.proofs.Unmoved.{small-unmoved, unmoved-needs}
use Rattle.tx_run.proofs.steps.Steps.need.Goals as goal

pub add_all-requires-clause-small : goal.add_all-requires-clause-small
add_all-requires-clause-small c = small-unmoved _ c.args.need.now c.requires.within.accessible

pub returns-in-None-clause-needed : goal.returns-in-None-clause-needed
returns-in-None-clause-needed c = λ line.
    c.add_all.ensures line
    ∙ ap (λ (m : Made). with_needs (needs_of c.args.need.now) (mode_in m.needed) line) c.self.view_is
    ∙ ap (λ needs. with_needs needs (mode_in c.args.self.now.needed) line)
    (sym (unmoved-needs _ c.args.need.now (sym c.prefix.ensures.value ∙ c.in-None.is)))
