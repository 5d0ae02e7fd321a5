use Rattle.tx_meaning.specs.Meaning.{meaning}
use Rattle.tx_bounds.proofs.Meant.{stops}
use Rattle.tx_bounds.proofs.Stopping.{once_pairs}
use Rattle.tx_bounds.proofs.laws.conflict_aborts_lead_to_the_stop_queue.Goals as goal

pub returns-clause-few : goal.returns-clause-few
returns-clause-few c = λ m events i s known. (stops m events s known).counted.few i

pub returns-clause-queued : goal.returns-clause-queued
returns-clause-queued c = λ m events i s known.
    let counted = (stops m events s known).counted in
    (counted.queued i, counted.at_stop i)

pub returns-clause-once : goal.returns-clause-once
returns-clause-once c = λ m events s known.
    once_pairs (meaning m events).queue (stops m events s known).counted.once

pub returns-clause-head : goal.returns-clause-head
returns-clause-head c = λ m events i s known waits live. (stops m events s known).behind i waits live
