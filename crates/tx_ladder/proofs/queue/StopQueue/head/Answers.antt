use Rattle.std.proofs.Common.{◌<◌, All, deque_capacity, vec_len, subst, arith}
use Rattle.tx_ladder.specs.Waiting.{Waiting}
use Rattle.tx_ladder.proofs.Kept.{in_range}
use Rattle.tx_ladder.proofs.queue.StopQueue.head.Goals as goal

pub returns-clause-in_range : goal.returns-clause-in_range
returns-clause-in_range c =
    let below : All (λ cpu. cpu < vec_len c.self.inside.waiting) c.self.inside.order.items = λ k d lt.
    let under =
    in_range c.self.inside.waiting.items c.self.inside.order.items (deque_capacity c.self.inside.order)
    c.self.invariant k d lt in omega arith in
    subst (λ (v : Waiting). All (λ cpu. cpu < v.cpus) v.order) c.self.view_is below
