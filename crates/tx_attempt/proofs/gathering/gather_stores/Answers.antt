-- The stores of the first operand are gathered.
use Rattle.std.proofs.Common.{ap, sym, ◌∙◌}
use Rattle.store_cache.specs.Stores.{Stores}
use Rattle.store_cache.specs.Entries.{stores_of}
use Rattle.tx_progress.specs.Progress.{laying}
use Rattle.tx_attempt.proofs.GatheredStores.{no-stores, some-stores, overlay-stays}
use Rattle.std.proofs.lemmas.Bool.{not-true, not-false}
use Rattle.tx_attempt.proofs.gathering.gather_stores.Goals as goal

pub returns-then-not-first-clause-overlay : goal.returns-then-not-first-clause-overlay
returns-then-not-first-clause-overlay c =
    overlay-stays (stores_of c.args.stores.now).overlay _
    (no-stores c.args.prefix c.args.need.now c.at-first.result c.args.stored.now c.at-first.ensures
    (not-true c.at-first.result.store c.if-not-first.true) c.requires.first)

pub returns-else-stores_lastingly-clause-overlay : goal.returns-else-stores_lastingly-clause-overlay
returns-else-stores_lastingly-clause-overlay c =
    ap (λ (s : Stores). s.overlay) c.gather.ensures
    ∙ ap (laying (stores_of c.args.stores.now).overlay)
    (sym (some-stores c.args.prefix c.args.need.now c.at-first.result c.args.stored.now c.at-first.ensures
    (not-false c.at-first.result.store c.if-not-first.false) c.requires.first))
