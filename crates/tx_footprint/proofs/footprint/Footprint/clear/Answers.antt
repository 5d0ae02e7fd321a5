use Rattle.tx_footprint.proofs.Limits.{are_clear, nothing_kept}
use Rattle.tx_footprint.proofs.footprint.Footprint.clear.Goals as goal

pub invariant_of-self : goal.invariant_of-self
invariant_of-self c =
    nothing_kept
    (are_clear _ _ c.clear.ensures c.self.invariant.touched_size)
    (are_clear _ _ c.clear-2.ensures c.self.invariant.fetched_size)
    (are_clear _ _ c.clear-3.ensures c.self.invariant.stored_size)
    (are_clear _ _ c.clear-4.ensures c.self.invariant.blocks_size)
