use Rattle.std.proofs.Common.{ap₂, ◌∙◌}
use Rattle.std.proofs.lemmas.Result.{IfOk-weaker}
use Rattle.clap.specs.Words.{with_rule}
use Rattle.ztx_words.specs.Arguments.{number_app}
use Rattle.ztx_words.proofs.arguments.number_command.Goals as goal

pub returns : goal.returns
unfolding number_app
returns c = IfOk-weaker c.arg.result _ _
    (λ command added. added.shape c.number.ensures.local
    ∙ ap₂ with_rule c.plain_command.ensures c.number.ensures.rule) c.arg.ensures
