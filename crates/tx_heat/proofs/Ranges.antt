-- Ranges of a list, one after the other.
use Rattle.std.proofs.Common.{◌≡◌, ℕ, ◌+◌, Bool, List, take, Some, ap, ◌∙◌}
use Rattle.std.specs.Prelude.{◌||◌, slice_get}
use Rattle.std.specs.List.{list_any}
use Rattle.std.proofs.lemmas.List.Folds.{list_any_more}
use Rattle.std.proofs.lemmas.Option.{get_or_from_slice_get, slice_get_within}
use Rattle.z_regs.specs.declared.ranges.Range.{Range}

-- one range more
pub any_more : (test : Range → Bool) (ranges : List Range) (i : ℕ) (r : Range) → slice_get ranges i ≡ Some r
    → list_any test (take (i + 1) ranges) ≡ (list_any test (take i ranges) || test r)
any_more test ranges i r e =
    list_any_more test ranges i r (slice_get_within ranges i r e)
    ∙ ap (λ x. list_any test (take i ranges) || test x) (get_or_from_slice_get ranges i r r e)
