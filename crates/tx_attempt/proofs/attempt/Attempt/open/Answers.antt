-- A footprint and stores of nothing are those of no attempt.
use Rattle.std.proofs.Common.{refl}
use Rattle.tx_attempt.proofs.Resting.{progress-rests, rested, rested-sound}
use Rattle.tx_attempt.proofs.attempt.Attempt.open.Goals as goal

pub invariant_of-result : goal.invariant_of-result
invariant_of-result c = rested-sound _ _ _ c.none.ensures c.in_ok-footprint.ensures c.in_ok-stores.ensures

pub returns : goal.returns
returns c cpu = progress-rests _ cpu refl (rested _ _ _ c.none.ensures c.in_ok-footprint.ensures c.in_ok-stores.ensures)
