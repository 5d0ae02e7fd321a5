use Rattle.std.proofs.Common.{List, ℕ, deque_capacity, subst, arith}
use Rattle.tx_ladder.specs.Waiting.{IsKept}
use Rattle.tx_ladder.proofs.Kept.{head_marked, left}
use Rattle.tx_ladder.proofs.queue.StopQueue.leave.Goals as goal

pub index_mut-requires : goal.index_mut-requires
index_mut-requires c =
    let kept =
    subst (λ (order : List ℕ). IsKept c.self.inside.waiting.items order
    (deque_capacity c.self.inside.order)) c.in-Some.ensures.items c.self.invariant in
    let within =
    head_marked c.self.inside.waiting.items c.in-Some.cpu c.pop_front.new.self.items
    (deque_capacity c.self.inside.order) kept in
    omega arith

pub invariant_of-self : goal.invariant_of-self
invariant_of-self c =
    let kept =
    subst (λ (order : List ℕ). IsKept c.self.inside.waiting.items order
    (deque_capacity c.self.inside.order)) c.in-Some.ensures.items c.self.invariant in
    rw c.in-Some.ensures.capacity
    (left c.self.inside.waiting.items c.in-Some.cpu c.pop_front.new.self.items
    (deque_capacity c.self.inside.order) kept)
