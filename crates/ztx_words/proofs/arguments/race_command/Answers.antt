use Rattle.std.proofs.Common.{ap₂, ◌∙◌}
use Rattle.std.proofs.lemmas.Result.{IfOk-weaker}
use Rattle.clap.specs.Words.{with_rule}
use Rattle.ztx_words.specs.Arguments.{race_app}
use Rattle.ztx_words.proofs.arguments.race_command.Goals as goal

pub returns : goal.returns
unfolding race_app
returns c =
    let one = c.in_ok-arg.ensures.shape c.turns.ensures.local
    ∙ ap₂ with_rule c.plain_command.ensures c.turns.ensures.rule in
    IfOk-weaker c.arg-2.result _ _
    (λ command added. added.shape c.tick.ensures.local ∙ ap₂ with_rule one c.tick.ensures.rule)
    c.arg-2.ensures
