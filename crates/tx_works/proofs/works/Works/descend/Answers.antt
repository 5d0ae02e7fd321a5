-- The ladder begins anew, and the head leaves the queue, where the attempt is constrained.
use Rattle.std.proofs.Common.{ap, sym, ◌∙◌}
use Rattle.tx_meaning.specs.Changes.{without_head}
use Rattle.tx_keeping.specs.Kept.{Kept}
use Rattle.tx_works.specs.Works.{Works, kept_by}
use Rattle.tx_works.proofs.Climbing.{with_queue, descended-there, descended-not}
use Rattle.tx_works.proofs.works.Works.descend.Goals as goal

pub returns-then-lower-clause-value : goal.returns-then-lower-clause-value
returns-then-lower-clause-value c rest =
    let k = kept_by rest c.args.self.now in
    ap (λ (w : Works). kept_by rest w) c.leave.ensures
    ∙ ap (λ (q : Kept). with_queue (without_head c.args.cpu q.state.queue) q) (c.lower.ensures.value rest)
    ∙ descended-there c.args.cpu k (sym (c.lower.ensures.constrained rest) ∙ c.if-lower.true)

pub returns-else-lower-clause-value : goal.returns-else-lower-clause-value
returns-else-lower-clause-value c rest =
    let k = kept_by rest c.args.self.now in
    c.lower.ensures.value rest
    ∙ descended-not c.args.cpu k (sym (c.lower.ensures.constrained rest) ∙ c.if-lower.false)
