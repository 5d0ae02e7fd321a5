use Rattle.std.proofs.Common.{ap₂, ◌∙◌}
use Rattle.std.proofs.lemmas.Result.{IfOk-weaker}
use Rattle.clap.specs.Words.{with_rule}
use Rattle.ztx_words.specs.Arguments.{step_app}
use Rattle.ztx_words.proofs.arguments.step_command.Goals as goal

pub returns : goal.returns
unfolding step_app
returns c =
    let one = c.in_ok-arg.ensures.shape c.steps.ensures.local
    ∙ ap₂ with_rule c.plain_command.ensures c.steps.ensures.rule in
    let two = c.in_ok-arg-2.ensures.shape c.tick.ensures.local
    ∙ ap₂ with_rule one c.tick.ensures.rule in
    IfOk-weaker c.arg-3.result _ _
    (λ command added. added.shape c.seed.ensures.local ∙ ap₂ with_rule two c.seed.ensures.rule)
    c.arg-3.ensures
