-- A test of what stands at each place of a table.
use Rattle.std.proofs.Common.{◌≡◌, ◌∙◌, ap, refl, ℕ, zero, suc, ◌+◌, ◌<◌, Bool, true, false, ◌&&◌}
use Rattle.std.proofs.Common.{[], ◌∷◌, map, arith}
use Rattle.std.specs.List.{list_all, range_with_len}
use Rattle.std.proofs.lemmas.List.Folds.{list_all-append, list_all_at}
use Rattle.std.proofs.lemmas.List.FromFn.{map-range_with_len_more, get_or-map-range_with_len}
use Rattle.std.proofs.lemmas.List.FromFn.{length-map-range_with_len}

both : {a b : Bool} → a ≡ true → b ≡ true → (a && (b && true)) ≡ true
both is other = rw (is, other) refl

module _ {X : Type 0} (test : X → Bool) (table : ℕ → X) where
  -- it passes where it passes at each
  pub all_pass : (n : ℕ) → ((k : ℕ) → k < n → test (table k) ≡ true)
      → list_all test (map table (range_with_len 0 n)) ≡ true
  all_pass zero pass = refl
  all_pass (suc n) pass =
      let next : suc n ≡ n + 1 = omega arith in
      ap (list_all test)
      (ap (λ m. map table (range_with_len 0 m)) next ∙ map-range_with_len_more table 0 n n (omega arith))
      ∙ list_all-append test (map table (range_with_len 0 n)) (table n ∷ [])
      ∙ both (all_pass n (λ k h. pass k (omega arith))) (pass n (omega arith))

  -- and fails where it fails at one
  pub one_fails : (n k : ℕ) → k < n → test (table k) ≡ false
      → list_all test (map table (range_with_len 0 n)) ≡ false
  one_fails n k within fails =
      let size = length-map-range_with_len table 0 n in
      list_all_at test (map table (range_with_len 0 n)) k (table k) (omega arith)
      (ap test (get_or-map-range_with_len table 0 n k k (table k) within (omega arith)) ∙ fails)
