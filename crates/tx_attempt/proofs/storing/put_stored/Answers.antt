-- The bytes of the first operand are stored.
use Rattle.std.proofs.Common.{sym, ◌∙◌}
use Rattle.tx_attempt.specs.Storages.{storage_of}
use Rattle.tx_attempt.proofs.Stored.{nothing-laid, unstored-laid, first-laid}
use Rattle.tx_attempt.proofs.storing.put_stored.Goals as goal

pub returns-then-count-eq0-clause-value : goal.returns-then-count-eq0-clause-value
returns-then-count-eq0-clause-value g c =
    nothing-laid c.args.prefix c.args.need.now c.args.stored.now (storage_of (g.V.Bytes.bytes c.args.base.now))
    (sym c.count.ensures.value ∙ c.if-count-eq0.true)

pub returns-then-first-clause-value : goal.returns-then-first-clause-value
returns-then-first-clause-value g c =
    first-laid c.args.prefix c.args.need.now c.at-first.result c.args.stored.now
    (storage_of (g.V.Bytes.bytes c.args.base.now)) _ c.at-first.ensures c.if-first.true c.requires.first
    c.put_all.ensures.value

pub returns-else-first-clause-value : goal.returns-else-first-clause-value
returns-else-first-clause-value g c =
    unstored-laid c.args.prefix c.args.need.now c.at-first.result c.args.stored.now
    (storage_of (g.V.Bytes.bytes c.args.base.now)) c.at-first.ensures c.if-first.false c.requires.first
