-- Nothing is left of the attempt but what has gone into storage.
use Rattle.std.proofs.Common.{◌≤◌, refl, ap, ◌∙◌, subst, length}
use Rattle.store_cache.specs.Entries.{stores_of}
use Rattle.store_cache.specs.Stores.{lasting_bytes}
use Rattle.store_cache.proofs.Overlays.{length-bytes_through}
use Rattle.tx_attempt.specs.Storages.{storage_of}
use Rattle.tx_attempt.specs.contracts.attempt.Attempt.{the_view}
use Rattle.tx_attempt.proofs.Resting.{progress-rests, rested, rested-sound}
use Rattle.tx_attempt.proofs.Storages.{storage_of-bytes_through}
use Rattle.tx_attempt.proofs.attempt.Attempt.abort.Goals as goal

pub invariant_of-self : goal.invariant_of-self
invariant_of-self g c = rested-sound _ _ _ c.clear.ensures c.clear-2.ensures c.abort.ensures.empty

pub returns-clause-rests : goal.returns-clause-rests
returns-clause-rests g c cpu =
    progress-rests _ cpu refl (rested _ _ _ c.clear.ensures c.clear-2.ensures c.abort.ensures.empty)

pub returns-clause-bytes : goal.returns-clause-bytes
returns-clause-bytes g c =
    rw (← c.self.view_is)
    (ap storage_of c.abort.ensures.bytes
    ∙ storage_of-bytes_through (lasting_bytes (stores_of (the_view c.self.inside).stores).lasting)
    (g.V.Bytes.bytes c.args.base.now)
    (λ a h. c.self.invariant.lasts a (subst (λ n. n ≤ a) c.requires h)))

pub returns-clause-size : goal.returns-clause-size
returns-clause-size g c = ap length c.abort.ensures.bytes
    ∙ length-bytes_through _ (g.V.Bytes.bytes c.args.base.now) ∙ c.requires
