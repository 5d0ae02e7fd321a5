use Rattle.std.proofs.Common.{ap₂, ◌∙◌}
use Rattle.std.proofs.lemmas.Result.{IfOk-weaker}
use Rattle.clap.specs.Words.{with_rule}
use Rattle.ztx_words.specs.Arguments.{run_app}
use Rattle.ztx_words.proofs.arguments.run_command.Goals as goal

pub returns : goal.returns
unfolding run_app
returns c = IfOk-weaker c.arg.result _ _
    (λ command added. added.shape c.seed.ensures.local
    ∙ ap₂ with_rule c.in_ok-race_command.ensures c.seed.ensures.rule) c.arg.ensures
