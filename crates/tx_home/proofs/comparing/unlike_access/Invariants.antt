-- The registers below the next one are the same.
use Rattle.std.specs.Prelude.{◌≡◌, ℕ, ◌<◌, None, slice_index}
use Rattle.tx_home.specs.Places.{at}
use Rattle.tx_home.specs.declared.place.Place.TheVariants as place
use Rattle.tx_home.proofs.comparing.unlike_access.Given as goal

abbrev pub invariant-loop-number : goal.invariant-loop-number
invariant-loop-number l =
    record {
      none : (n : ℕ) → n < l.number
          → at (place.Access n) (slice_index l.kept.access n) (slice_index l.given.access n) ≡ None;
    }
