-- Small lemmas on entries, flags and lists.
use Rattle.std.proofs.Common.{◌≡◌, ◌≢◌, ℕ, zero, suc, ◌≤◌, Bool, true, false, List, [], ◌∷◌, ◌++◌}
use Rattle.std.proofs.Common.{length, drop, refl, ◌∙◌, arith, length-append}
use Rattle.std.specs.Prelude.{◌==◌, All}
use Rattle.std.specs.List.{list_any}
use Rattle.std.proofs.lemmas.Bool.{ne_eqb, or_right}
use Rattle.std.proofs.lemmas.List.Elements.{All-nil, All-cons, All-head, All-tail}
use Rattle.std.proofs.lemmas.List.Folds.{list_any-append}
use Rattle.tx_ladder.specs.Waiting.{waits_in}
use Rattle.tx_ladder.proofs.Kept.{drop_false}

-- another CPU has joined
pub other_joined : (joined : List ℕ) (j i : ℕ) → j ≢ i → waits_in joined i ≡ false
    → waits_in (joined ++ j ∷ []) i ≡ false
other_joined joined j i ne off =
    list_any-append (λ k. k == i) joined (j ∷ []) ∙ drop_false (waits_in joined i) (j == i) (ne_eqb j i ne) ∙ off

module _ {X : Type 0} where
  -- one more that fails a test
  pub none_more : (p : X → Bool) (xs : List X) (x : X) → p x ≡ false
      → list_any p (xs ++ x ∷ []) ≡ list_any p xs
  none_more p xs x off = list_any-append p xs (x ∷ []) ∙ drop_false (list_any p xs) (p x) off

  pub longer_by_one : (xs : List X) (n : ℕ) (x : X) → n ≤ length xs → n ≤ length (xs ++ x ∷ [])
  longer_by_one xs n x le = let sum = length-append xs (x ∷ []) in omega (arith, le, sum)

  -- what stands behind the first part of a list
  pub dropped : (first rest : List X) → drop (length first) (first ++ rest) ≡ rest
  dropped [] rest = refl
  dropped (x ∷ first) rest = dropped first rest

  pub behind_part : (first more rest : List X) → drop (length (first ++ more)) (first ++ rest)
      ≡ drop (length more) rest
  behind_part [] more rest = refl
  behind_part (x ∷ first) more rest = behind_part first more rest

  -- what passes a test behind some elements passes it in the whole list
  pub any_behind : (p : X → Bool) (n : ℕ) (xs : List X) → list_any p (drop n xs) ≡ true
      → list_any p xs ≡ true
  any_behind p zero xs is = is
  any_behind p (suc n) [] is = is
  any_behind p (suc n) (x ∷ rest) is = or_right (p x) (list_any p rest) (any_behind p n rest is)

  -- what holds of all holds of the first, and of those that follow
  pub all_first : (P : X → Type 0) (xs ys : List X) → All P (xs ++ ys) → All P xs
  all_first P [] ys all = All-nil P
  all_first P (x ∷ xs) ys all =
      All-cons P x xs (All-head P x (xs ++ ys) all) (all_first P xs ys (All-tail P x (xs ++ ys) all))

  pub all_later : (P : X → Type 0) (xs ys : List X) → All P (xs ++ ys) → All P ys
  all_later P [] ys all = all
  all_later P (x ∷ xs) ys all = all_later P xs ys (All-tail P x (xs ++ ys) all)
