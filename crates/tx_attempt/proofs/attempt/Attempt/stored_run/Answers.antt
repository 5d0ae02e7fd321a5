-- What the store cache has of a run, the attempt has.
use Rattle.std.proofs.Common.{◌≡◌, ◌<◌, ◌≤◌, ◌+◌, ◌%◌, ℕ, true, subst}
use Rattle.std.specs.Prelude.{IfNone, is_some}
use Rattle.store_cache.specs.Entries.{stores_of}
use Rattle.store_cache.specs.Sizes.{block_size}
use Rattle.tx_attempt.specs.Tracked.{Tracked}
use Rattle.tx_attempt.proofs.attempt.Attempt.stored_run.Goals as goal

pub returns-clause-none : goal.returns-clause-none
returns-clause-none c =
    subst (λ (t : Tracked). IfNone c.run.result (c.args.address % block_size + c.args.count ≤ block_size
    → ((k : ℕ) → k < c.args.count → is_some ((stores_of t.stores).overlay (c.args.address + k)) ≡ true) → ⊥))
    c.self.view_is c.run.ensures.none
