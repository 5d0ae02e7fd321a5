use Rattle.tx_ladder.proofs.Kept.{turned}
use Rattle.tx_ladder.proofs.queue.StopQueue.to_tail.Goals as goal

pub invariant_of-self : goal.invariant_of-self
invariant_of-self c =
    rw (c.rotate_left.ensures.items, c.rotate_left.ensures.capacity) (turned _ _ _ c.self.invariant)
