-- Bytes over which nothing is stored are those of storage.
use Rattle.std.proofs.Common.{List, ℕ, length, sym, ◌∙◌, arith}
use Rattle.store_cache.specs.Entries.{stores_of}
use Rattle.tx_attempt.proofs.Bare.{none-so, bare-seen}
use Rattle.tx_attempt.proofs.lending.see.Goals as goal

pub see_stored-requires-clause-none : goal.see_stored-requires-clause-none
see_stored-requires-clause-none g c = none-so c.args.prefix (sym c.is_some.ensures ∙ c.if-is_some.false)

pub returns : goal.returns
returns g c =
    let s : List ℕ = g.V.Bytes.bytes c.args.base.now in
    c.fetch.ensures
    ∙ bare-seen (stores_of c.args.attempt.now.stores).overlay c.args.prefix c.args.first
    (length c.args.bytes.now) s (none-so c.args.prefix (sym c.is_some.ensures ∙ c.if-is_some.false))
    (c.is_bare.ensures c.if-not-is_bare.false)
    (omega (arith, c.requires.end, c.requires.size))
