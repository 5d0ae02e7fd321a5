-- Where no block is stored, there is nothing.
use Rattle.std.proofs.Common.{◌+◌, sym, ◌∙◌, arith}
use Rattle.store_cache.specs.Entries.{stores_of}
use Rattle.tx_attempt.proofs.Bare.{none-stored}
use Rattle.tx_attempt.proofs.attempt.Attempt.has_stored.Goals as goal

pub returns-then-blocks-eq0 : goal.returns-then-blocks-eq0
returns-then-blocks-eq0 c none k below =
    rw (← c.self.view_is)
    (none-stored (stores_of c.self.inside.stores).overlay (c.args.place + k)
    (sym c.blocks-2.ensures.value ∙ c.if-blocks-eq0.true) (omega (arith, below, c.requires)))
