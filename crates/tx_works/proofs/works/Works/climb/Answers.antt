-- What comes after a conflict.
use Rattle.std.proofs.Common.{ap, sym, ◌∙◌, [], ◌∷◌, ◌++◌}
use Rattle.tx_ladder.specs.Waiting.{waits_in}
use Rattle.tx_ladder.specs.declared.ladder.Next.TheVariants.{Plain, Delay, Queue}
use Rattle.tx_keeping.specs.Kept.{Kept}
use Rattle.tx_works.specs.Works.{Works, kept_by}
use Rattle.tx_works.specs.Steps.{k_delayed}
use Rattle.tx_works.proofs.Seats.{no_seat}
use Rattle.tx_works.proofs.Climbing.{with_queue, climbed-by, queued-constrained}
use Rattle.tx_works.proofs.works.Works.climb.Goals as goal

pub join-requires-clause-out : goal.join-requires-clause-out
join-requires-clause-out c =
    let k = kept_by no_seat c.args.self.now in
    let constrained = queued-constrained (k.standings c.args.cpu)
    (sym (c.in-Queue.is) ∙ c.raise.ensures.next no_seat) in
    ap (λ (q : Kept). waits_in q.state.queue c.args.cpu) (c.raise.ensures.value no_seat)
    ∙ (c.requires.climbs no_seat).out constrained

pub returns-in-Plain-clause-value : goal.returns-in-Plain-clause-value
returns-in-Plain-clause-value c rest =
    c.raise.ensures.value rest
    ∙ climbed-by c.args.cpu (kept_by rest c.args.self.now) Plain
    (sym (c.in-Plain.is) ∙ c.raise.ensures.next rest)

pub returns-in-Delay-clause-value : goal.returns-in-Delay-clause-value
returns-in-Delay-clause-value c rest =
    c.delay.ensures.value rest
    ∙ ap (k_delayed c.args.cpu c.in-Delay.turns) (c.raise.ensures.value rest)
    ∙ climbed-by c.args.cpu (kept_by rest c.args.self.now) (Delay c.in-Delay.turns)
    (sym (c.in-Delay.is) ∙ c.raise.ensures.next rest)

pub returns-in-Queue-clause-value : goal.returns-in-Queue-clause-value
returns-in-Queue-clause-value c rest =
    ap (λ (w : Works). kept_by rest w) c.join.ensures
    ∙ ap (λ (q : Kept). with_queue (q.state.queue ++ c.args.cpu ∷ []) q) (c.raise.ensures.value rest)
    ∙ climbed-by c.args.cpu (kept_by rest c.args.self.now) Queue
    (sym (c.in-Queue.is) ∙ c.raise.ensures.next rest)
