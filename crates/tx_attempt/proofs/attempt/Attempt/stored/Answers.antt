-- A stored byte lies in a block of the footprint.
use Rattle.std.proofs.Common.{◌≡◌, ◌/◌, true, subst}
use Rattle.std.specs.Prelude.{IfSome}
use Rattle.tx_footprint.specs.Touched.{sets_of}
use Rattle.store_cache.specs.Entries.{stores_of}
use Rattle.store_cache.specs.Sizes.{block_size}
use Rattle.tx_attempt.specs.Tracked.{Tracked}
use Rattle.tx_attempt.proofs.StoredMore.{some-block}
use Rattle.tx_attempt.proofs.attempt.Attempt.stored.Goals as goal

pub returns-clause-block : goal.returns-clause-block
returns-clause-block c =
    subst (λ (t : Tracked). IfSome c.byte.result (λ byte. (sets_of t.footprint).blocks (c.args.address / block_size)
    ≡ true)) c.self.view_is
    (some-block (stores_of c.self.inside.stores).overlay c.args.address c.byte.result _ c.byte.ensures
    (c.self.invariant.blocks (c.args.address / block_size)))
