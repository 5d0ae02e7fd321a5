-- Runs at their places.
use Rattle.std.proofs.Common.{◌≡◌, ℕ, ◌<◌, List, [], ◌∷◌, ◌++◌, length, get_or, set, sym, ◌∙◌, subst, arith}
use Rattle.std.proofs.Common.{inl, inr}
use Rattle.std.proofs.lemmas.Bool.{cases_eq}
use Rattle.std.proofs.lemmas.Grind.{common_steps}
use Rattle.std.proofs.lemmas.List.{get_or-set_same, get_or-set_other, get_or_default}
use Rattle.tx_machine.specs.Runs.{AreOwn, IsOf}
use Rattle.tx_machine.specs.declared.runs.Place.{Place}
use Rattle.tx_machine.specs.declared.runs.Place.TheVariants.{Away}

-- what stands at a place
pub own_at : (places : List Place) (i : ℕ) (place : Place) → AreOwn places → i < length places
    → place ≡ get_or places i place → IsOf i place
own_at places i place own lt is = subst (IsOf i) (sym (is ∙ get_or_default places i place Away lt)) (own.each i)

-- something else comes to its place
pub own_put : (places : List Place) (i : ℕ) (place : Place) → AreOwn places → i < length places → IsOf i place
    → AreOwn (set places i place)
own_put places i place own lt is = record {
  each = λ j. elim (cases_eq j i) as (λ _. IsOf j (get_or (set places i place) j Away)) [
    | inl same ↦ subst (λ k. IsOf k (get_or (set places i place) k Away)) (sym same)
        (subst (IsOf i) (sym (get_or-set_same places i place Away lt)) is)
    | inr other ↦ subst (IsOf j) (sym (get_or-set_other places i j place Away other)) (own.each j)
  ];
}

-- a place more
pub own_pushed : (places : List Place) (place : Place) → AreOwn places → IsOf (length places) place
    → AreOwn (places ++ place ∷ [])
own_pushed places place own is = record { each = λ j. grind (arith, common_steps, own.each j) }
