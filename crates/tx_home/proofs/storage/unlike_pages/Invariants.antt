-- The pages below the next one are alike.
use Rattle.std.proofs.Common.{◌-◌}
use Rattle.std.specs.Prelude.{◌≡◌, ℕ, ◌<◌, None}
use Rattle.std.specs.FinSet.{items}
use Rattle.tx_home.specs.Places.{at_page}
use Rattle.tx_home.proofs.storage.unlike_pages.Given as goal

abbrev pub invariant-loop-page : goal.invariant-loop-page
invariant-loop-page l =
    record { none : (n : ℕ) → n < l.from → at_page (items l.guard) l.run n ≡ None }

abbrev pub decreases-loop-page : goal.decreases-loop-page
decreases-loop-page l = 256 - l.from
