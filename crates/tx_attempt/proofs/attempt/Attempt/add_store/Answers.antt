-- There is room for the byte, and the attempt stays sound.
use Rattle.std.proofs.Common.{◌≡◌, ◌/◌, true, subst, sym}
use Rattle.tx_footprint.specs.Touched.{sets_of}
use Rattle.store_cache.specs.Sizes.{block_size}
use Rattle.tx_attempt.specs.Tracked.{Tracked}
use Rattle.tx_attempt.specs.contracts.attempt.Attempt.{the_view}
use Rattle.tx_attempt.proofs.StoredMore.{more-room, more-sound}
use Rattle.tx_attempt.proofs.attempt.Attempt.add_store.Goals as goal

pub store-requires-clause-room : goal.store-requires-clause-room
store-requires-clause-room c =
    more-room (the_view c.self.inside) c.args.address c.blocks-few.result c.self.invariant c.requires.within
    (subst (λ (t : Tracked). (sets_of t.footprint).blocks (c.args.address / block_size) ≡ true)
    (sym c.self.view_is) c.requires.block)
    c.blocks-few.ensures.value c.blocks-few.ensures.within

pub invariant_of-self : goal.invariant_of-self
invariant_of-self c =
    more-sound (the_view c.self.inside) c.store.new.self c.args.address c.args.byte c.self.invariant c.requires.within
    (subst (λ (t : Tracked). (sets_of t.footprint).blocks (c.args.address / block_size) ≡ true)
    (sym c.self.view_is) c.requires.block)
    c.store.ensures
