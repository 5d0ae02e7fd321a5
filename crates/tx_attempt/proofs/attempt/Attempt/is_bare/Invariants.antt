-- Nothing is stored in the blocks up to here.
use Rattle.std.proofs.Common.{◌≡◌, ℕ, ◌<◌, ◌≤◌, ◌/◌, None}
use Rattle.store_cache.specs.Entries.{stores_of}
use Rattle.tx_attempt.proofs.attempt.Attempt.is_bare.Given as goal

abbrev pub invariant-loop-at : goal.invariant-loop-at
invariant-loop-at l =
    (a : ℕ) → l.first / 128 ≤ a / 128 → a / 128 < l.at → (stores_of l.self.stores).overlay a ≡ None
