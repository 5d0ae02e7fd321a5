-- A CPU that is not there has touched nothing.
use Rattle.std.proofs.Common.{sym, ap, ◌∙◌}
use Rattle.tx_heat.specs.Octowords.{are_apart}
use Rattle.tx_heat.proofs.Marked.{apart_from_nothing}
use Rattle.tx_heat.proofs.Tracked.{touches_nothing}
use Rattle.tx_heat.proofs.following.are_apart.Goals as goal

pub returns : goal.returns
returns c = λ m s tracks.
    sym (ap (λ x. are_apart c.args.asked.now x c.args.line)
    (touches_nothing m s c.args.holder (tracks.beyond c.args.holder c.if-at-tracks.false))
    ∙ apart_from_nothing c.args.asked.now c.args.line)
