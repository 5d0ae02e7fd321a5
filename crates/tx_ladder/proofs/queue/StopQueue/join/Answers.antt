use Rattle.std.proofs.Common.{◌≡◌, ◌<◌, false, length, deque_capacity, ap, ◌∙◌, arith}
use Rattle.tx_ladder.specs.Waiting.{Waiting, waits_in}
use Rattle.tx_ladder.proofs.Kept.{joined, room_left}
use Rattle.tx_ladder.proofs.queue.StopQueue.join.Goals as goal

pub push_back_reserved-requires : goal.push_back_reserved-requires
push_back_reserved-requires c =
    let same_cpus = ap (λ (v : Waiting). v.cpus) c.self.view_is in
    let within : c.args.cpu < length c.self.inside.waiting.items = omega arith in
    let off : waits_in c.self.inside.order.items c.args.cpu ≡ false =
    ap (λ (v : Waiting). waits_in v.order c.args.cpu) c.self.view_is ∙ c.requires.absent in
    let enough =
    room_left c.self.inside.waiting.items c.self.inside.order.items (deque_capacity c.self.inside.order)
    c.args.cpu c.self.invariant within off in
    omega arith

pub invariant_of-self : goal.invariant_of-self
invariant_of-self c =
    let same_cpus = ap (λ (v : Waiting). v.cpus) c.self.view_is in
    let within : c.args.cpu < length c.self.inside.waiting.items = omega arith in
    let off : waits_in c.self.inside.order.items c.args.cpu ≡ false =
    ap (λ (v : Waiting). waits_in v.order c.args.cpu) c.self.view_is ∙ c.requires.absent in
    rw (c.push_back_reserved.ensures.items, c.push_back_reserved.ensures.capacity)
    (joined _ _ _ c.args.cpu c.self.invariant within off)
