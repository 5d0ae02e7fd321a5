-- The first of several places that differ.
use Rattle.std.proofs.Common.{◌≡◌, ℕ, zero, suc, ◌+◌, ◌<◌, ◌≤◌, ◌∷◌, Option, Some, None, inl, inr, refl, sym, ap, ◌∙◌, arith}
use Rattle.std.specs.Prelude.{◌≢◌, ◌⊎◌, map, Bool, true, false, nat_eq, is_none, if◌then◌else◌}
use Rattle.std.proofs.lemmas.Bool.{eqb-true, eq-eqb, cases_lt}
use Rattle.std.proofs.lemmas.Bool.Decides.{eqb_tells}
use Rattle.line_table.specs.declared.table.Mode.{Mode}
use Rattle.line_table.specs.declared.table.Mode.TheVariants.{Shared, Exclusive}
use Rattle.std.specs.List.{range_with_len}
use Rattle.tx_home.specs.Places.{at, first_some, first_below, lacking}
use Rattle.tx_home.specs.declared.place.Place.{Place}
use Rattle.tx_home.specs.declared.place.Unlike.{Unlike}

-- nothing in so many numbers from a place on
none-from : (f : ℕ → Option Unlike) (from n : ℕ) → ((i : ℕ) → from ≤ i → i < from + n → f i ≡ None)
    → first_some (map f (range_with_len from n)) ≡ None
none-from f from zero none = refl
none-from f from (suc n) none =
    (λ x. first_some (none from (omega arith) (omega arith) x ∷ map f (range_with_len (from + 1) n)))
    ∙ none-from f (from + 1) n (λ i low high. none i (omega arith) (omega arith))

-- something so far behind a place, and nothing before
found-from : (f : ℕ → Option Unlike) (from n d : ℕ) (u : Unlike) → d < n
    → ((i : ℕ) → from ≤ i → i < from + d → f i ≡ None) → f (from + d) ≡ Some u
    → first_some (map f (range_with_len from n)) ≡ Some u
found-from f from zero d u lt none found = absurd (omega arith)
found-from f from (suc n) zero u lt none found =
    let here : from ≡ from + 0 = omega arith in
    let there : f from ≡ Some u = ap f here ∙ found in
    (λ x. first_some (there x ∷ map f (range_with_len (from + 1) n)))
found-from f from (suc n) (suc d) u lt none found =
    let further : from + 1 + d ≡ from + suc d = omega arith in
    (λ x. first_some (none from (omega arith) (omega arith) x ∷ map f (range_with_len (from + 1) n)))
    ∙ found-from f (from + 1) n d u (omega arith) (λ i low high. none i (omega arith) (omega arith)) (ap f further ∙ found)

pub below-none : (f : ℕ → Option Unlike) (end : ℕ) → ((i : ℕ) → i < end → f i ≡ None) → None ≡ first_below end f
unfolding first_below
below-none f end none = sym (none-from f 0 end (λ i low high. none i (omega arith)))

pub below-found : (f : ℕ → Option Unlike) (end i : ℕ) (u : Unlike) → i < end → ((j : ℕ) → j < i → f j ≡ None) → f i ≡ Some u
    → Some u ≡ first_below end f
unfolding first_below
below-found f end i u lt none found = sym (found-from f 0 end i u lt (λ j low high. none j (omega arith)) (ap f (omega arith) ∙ found))

-- where nothing is said of a place, its values are the same
nothing-said : (same : Bool) (u : Unlike) → (if same then None else Some u) ≡ None → same ≡ true
nothing-said true u none = refl
nothing-said false u none = ap is_none none

pub at-none : (p : Place) (kept given : ℕ) → at p kept given ≡ None → kept ≡ given
at-none p kept given none =
    eqb-true kept given (nothing-said (nat_eq kept given) (record { place = p; kept = kept; given = given }) none)

pub at-same : (p : Place) (kept given : ℕ) → kept ≡ given → at p kept given ≡ None
at-same p kept given same =
    ap (λ b. if b then None else Some (record { place = p; kept = kept; given = given })) (eq-eqb kept given same)

pub at-other : (p : Place) (kept given : ℕ) → kept ≢ given → at p kept given ≡ Some (record { place = p; kept = kept; given = given })
at-other p kept given other = by-test (eqb_tells kept given)
  where
    by-test : ((nat_eq kept given ≡ true) × (kept ≡ given)) ⊎ ((nat_eq kept given ≡ false) × (kept ≢ given))
        → at p kept given ≡ Some (record { place = p; kept = kept; given = given })
    by-test (inl same) = absurd (other same.1)
    by-test (inr is) = ap (λ b. if b then None else Some (record { place = p; kept = kept; given = given })) is.0

-- ---- places that are looked at where they are marked

pub only-marked : (marked : Bool) (o : Option Unlike) → (marked ≡ true → o ≡ None) → (if marked then o else None) ≡ None
only-marked true o none = none refl
only-marked false o none = refl

pub where-marked : (marked : Bool) (o p : Option Unlike) → marked ≡ true → o ≡ p → (if marked then o else None) ≡ p
where-marked marked o p is same = ap (λ b. if b then o else None) is ∙ same

-- below a place and from it to the next
pub up-to : (f : ℕ → Option Unlike) (from next : ℕ) → ((j : ℕ) → j < from → f j ≡ None)
    → ((j : ℕ) → from ≤ j → j < next → f j ≡ None) → (j : ℕ) → j < next → f j ≡ None
up-to f from next below above j lt = by-place (cases_lt j from)
  where
    by-place : (j < from) ⊎ (from ≤ j) → f j ≡ None
    by-place (inl low) = below j low
    by-place (inr high) = above j high lt

-- and it itself
pub up-with : (f : ℕ → Option Unlike) (from next : ℕ) → ((j : ℕ) → j < from → f j ≡ None)
    → ((j : ℕ) → from ≤ j → j < next → f j ≡ None) → f next ≡ None → (j : ℕ) → j < next + 1 → f j ≡ None
up-with f from next below above here j lt = by-place (cases_lt j next)
  where
    by-place : (j < next) ⊎ (next ≤ j) → f j ≡ None
    by-place (inl low) = up-to f from next below above j low
    by-place (inr high) =
        let same : j ≡ next = omega arith in
        ap f same ∙ here

-- a line that was not needed
pub not-lacking : (line : ℕ) (kept : Option Mode) → lacking line kept None ≡ None
not-lacking line None = refl
not-lacking line (Some Shared) = refl
not-lacking line (Some Exclusive) = refl
