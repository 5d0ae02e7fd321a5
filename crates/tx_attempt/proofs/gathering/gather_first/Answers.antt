-- What the first operand stores is gathered.
use Rattle.std.proofs.Common.{List, ap, sym, ◌∙◌}
use Rattle.store_cache.specs.Entries.{stores_of}
use Rattle.store_cache.specs.Overlay.{Store}
use Rattle.store_cache.specs.Stores.{Stores}
use Rattle.tx_progress.specs.Progress.{laying}
use Rattle.tx_attempt.proofs.GatheredStores.{no-stores, some-stores}
use Rattle.tx_attempt.proofs.gathering.gather_first.Goals as goal

-- these stores are laid over what was gathered before
abbrev laid : Stores → List Store → Stores
laid stores ss = record stores { overlay = laying stores.overlay ss }

pub returns-then-first : goal.returns-then-first
returns-then-first c =
    c.gather.ensures
    ∙ ap (laid (stores_of c.args.stores.now))
    (sym (some-stores c.args.prefix c.args.need.now c.at-first.result c.args.stored.now c.at-first.ensures
    c.if-first.true c.requires.first))

pub returns-else-first : goal.returns-else-first
returns-else-first c =
    sym (ap (laid (stores_of c.args.stores.now))
    (no-stores c.args.prefix c.args.need.now c.at-first.result c.args.stored.now c.at-first.ensures
    c.if-first.false c.requires.first))
