-- Elements of lists, one after the other, tests together, and numbers beside one another.
use Rattle.std.proofs.Common.{◌≡◌, ℕ, ◌+◌, ◌<◌, ◌&&◌, ◌||◌, Bool, true, false, List, [], ◌∷◌, length, set, take, Option, None, Some}
use Rattle.std.proofs.Common.{refl, ap, ◌∙◌, arith}
use Rattle.std.specs.Prelude.{nat_lt}
use Rattle.std.specs.List.{list_any, list_all, slice_get}
use Rattle.std.specs.Option.{is_none}
use Rattle.std.proofs.lemmas.Bool.Decides.{nat_tests}
use Rattle.std.proofs.lemmas.List.{get_or-set_same, length-set}
use Rattle.std.proofs.lemmas.List.Folds.{list_all_at, list_all_more, list_any_at, list_any_more}
use Rattle.std.proofs.lemmas.Option.{get_or_from_slice_get, slice_get-get_or, slice_get_within}

-- ---- tests of a list, as far as its elements have been looked at

module _ {X : Type 0} (p : X → Bool) where
  pub list_all_failed : (xs : List X) (i : ℕ) (x : X) → slice_get xs i ≡ Some x → p x ≡ false →
      list_all p xs ≡ false
  list_all_failed xs i x at fails =
      list_all_at p xs i x (slice_get_within xs i x at) (ap p (get_or_from_slice_get xs i x x at) ∙ fails)

  pub list_all_longer : (xs : List X) (i : ℕ) (x : X) → slice_get xs i ≡ Some x →
      list_all p (take i xs) ≡ true → p x ≡ true → list_all p (take (i + 1) xs) ≡ true
  list_all_longer xs i x at before passes =
      list_all_more p xs i x (slice_get_within xs i x at)
      ∙ (λ k. before k && (ap p (get_or_from_slice_get xs i x x at) ∙ passes) k)

  pub list_any_passed : (xs : List X) (i : ℕ) (x : X) → slice_get xs i ≡ Some x → p x ≡ true →
      list_any p xs ≡ true
  list_any_passed xs i x at passes =
      list_any_at p xs i x (slice_get_within xs i x at) (ap p (get_or_from_slice_get xs i x x at) ∙ passes)

  pub list_any_longer : (xs : List X) (i : ℕ) (x : X) → slice_get xs i ≡ Some x →
      list_any p (take i xs) ≡ false → p x ≡ false → list_any p (take (i + 1) xs) ≡ false
  list_any_longer xs i x at before fails =
      list_any_more p xs i x (slice_get_within xs i x at)
      ∙ (λ k. before k || (ap p (get_or_from_slice_get xs i x x at) ∙ fails) k)

-- ---- one element

-- one that has been put is there
pub put_is_there : {X : Type 0} (xs : List X) (i : ℕ) (x : X) → i < length xs → slice_get (set xs i x) i ≡ Some x
put_is_there xs i x low =
    slice_get-get_or (set xs i x) i x (omega (arith, length-set xs i x)) ∙ ap Some (get_or-set_same xs i x x low)

-- what is found to be nothing is nothing
pub is_nothing : {X : Type 0} (o : Option X) → is_none o ≡ true → o ≡ None
is_nothing None is = refl
is_nothing (Some x) is = let no : false ≡ true = is in cc

-- a list of one element
pub one_element : {X : Type 0} (xs : List X) (x : X) → length xs ≡ 1 → slice_get xs 0 ≡ Some x → xs ≡ x ∷ []
one_element [] x one there = absurd (omega (arith, one))
one_element (y ∷ []) x one there = ap (λ z. z ∷ []) (cc)
one_element (y ∷ z ∷ xs) x one there = absurd (omega (arith, one))

-- ---- tests together

-- where the first of two fails, the second holds
pub second_holds : (a b : Bool) → (a || b) ≡ true → a ≡ false → b ≡ true
second_holds true b h fails = let no : true ≡ false = fails in cc
second_holds false b h fails = h

-- four of them, two by two
pub or_across : (a b c d : Bool) → ((a || b) || (c || d)) ≡ ((a || c) || (b || d))
or_across true b c d = refl
or_across false true true d = refl
or_across false true false d = refl
or_across false false c d = refl

-- ---- two numbers

-- one is below the other, is the same, or is above it
pub data Order (x o : ℕ) : Type 0 where
  Below : x < o → Order x o
  Same : x ≡ o → Order x o
  Above : o < x → Order x o

order_by : (x o : ℕ) (less more : Bool) → nat_lt x o ≡ less → nat_lt o x ≡ more → Order x o
order_by x o true more p q = Below (grind (arith, nat_tests))
order_by x o false true p q = Above (grind (arith, nat_tests))
order_by x o false false p q = Same (grind (arith, nat_tests))

pub order : (x o : ℕ) → Order x o
order x o = order_by x o (nat_lt x o) (nat_lt o x) refl refl
