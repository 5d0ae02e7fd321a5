-- Where no block is stored, no byte is.
use Rattle.std.proofs.Common.{◌+◌, sym, ap, ◌∙◌, arith}
use Rattle.store_cache.specs.Entries.{stores_of}
use Rattle.store_cache.specs.Overlay.{block_count}
use Rattle.tx_attempt.specs.Tracked.{Tracked}
use Rattle.tx_attempt.proofs.Bare.{none-stored}
use Rattle.tx_attempt.proofs.attempt.Attempt.is_bare.Goals as goal

pub returns-then-blocks-eq0 : goal.returns-then-blocks-eq0
returns-then-blocks-eq0 c bare k lt =
    none-stored (stores_of c.args.self.now.stores).overlay (c.args.first + k)
    (ap (λ (t : Tracked). block_count (stores_of t.stores).overlay) (sym c.self.view_is)
    ∙ sym c.blocks-2.ensures.value ∙ c.if-blocks-eq0.true) (omega (arith, lt, c.requires))
