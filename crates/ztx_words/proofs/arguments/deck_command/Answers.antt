use Rattle.std.proofs.Common.{ap₂, ◌∙◌}
use Rattle.std.proofs.lemmas.Result.{IfOk-weaker}
use Rattle.clap.specs.Words.{with_rule}
use Rattle.ztx_words.specs.Arguments.{deck_app}
use Rattle.ztx_words.proofs.arguments.deck_command.Goals as goal

pub returns : goal.returns
unfolding deck_app
returns c =
    let one = c.in_ok-arg.ensures.shape c.read.ensures.local
    ∙ ap₂ with_rule c.plain_command.ensures c.read.ensures.rule in
    IfOk-weaker c.arg-2.result _ _
    (λ command added. added.shape c.origin.ensures.local ∙ ap₂ with_rule one c.origin.ensures.rule)
    c.arg-2.ensures
