-- One range more of a list.
use Rattle.std.proofs.Common.{◌≡◌, ℕ, ◌+◌, List, [], ◌∷◌, ◌++◌, take}
use Rattle.std.proofs.Common.{refl, ap, ◌∙◌, Some, append-nil}
use Rattle.std.specs.Prelude.{slice_get}
use Rattle.std.specs.List.{flat_map}
use Rattle.std.proofs.lemmas.List.{take_more}
use Rattle.std.proofs.lemmas.List.Concat.{flat_map-append}
use Rattle.std.proofs.lemmas.Option.{get_or_from_slice_get, slice_get_within}
use Rattle.z_regs.specs.declared.ranges.Range.{Range}
use Rattle.z_regs.specs.Rising.{with_number}
use Rattle.tx_meaning.specs.Needs.{lines_of}
use Rattle.tx_needs.specs.Needs.{with_numbers}

pub more_ranges : (ranges : List Range) (i : ℕ) (r : Range) → slice_get ranges i ≡ Some r
    → take (i + 1) ranges ≡ take i ranges ++ r ∷ []
more_ranges ranges i r e =
    take_more ranges i r (slice_get_within ranges i r e)
    ∙ ap (λ x. take i ranges ++ x ∷ []) (get_or_from_slice_get ranges i r r e)

-- numbers in two lists, one after the other
with_both : (rising xs ys : List ℕ) → with_numbers rising (xs ++ ys) ≡ with_numbers (with_numbers rising xs) ys
with_both rising [] ys = refl
with_both rising (x ∷ xs) ys = with_both (with_number rising x) xs ys

pub lines_more : (ranges : List Range) (i : ℕ) (r : Range) → slice_get ranges i ≡ Some r
    → with_numbers [] (flat_map lines_of (take (i + 1) ranges))
    ≡ with_numbers (with_numbers [] (flat_map lines_of (take i ranges))) (lines_of r)
lines_more ranges i r e =
    ap (λ l. with_numbers [] (flat_map lines_of l)) (more_ranges ranges i r e)
    ∙ ap (with_numbers []) (flat_map-append lines_of (take i ranges) (r ∷ []))
    ∙ with_both [] (flat_map lines_of (take i ranges)) (flat_map lines_of (r ∷ []))
    ∙ ap (with_numbers (with_numbers [] (flat_map lines_of (take i ranges)))) (append-nil (lines_of r))
