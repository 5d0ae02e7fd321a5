-- Lists of numbers one after the other.
use Rattle.std.proofs.Common.{◌≡◌, ℕ, zero, suc, ◌+◌, ◌∷◌, ◌++◌, ap, ◌∙◌, arith}
use Rattle.std.specs.List.{range_with_len}

pub range-split : (first k m : ℕ) →
    range_with_len first (k + m) ≡ range_with_len first k ++ range_with_len (first + k) m
range-split first zero m =
    (λ i. range_with_len (e0 i) (e1 i))
  where
    e0 : first ≡ first + 0
    e0 = omega arith

    e1 : 0 + m ≡ m
    e1 = omega arith
range-split first (suc k) m =
    ap (range_with_len first) e
    ∙ ap (λ xs. first ∷ xs) (range-split (first + 1) k m
    ∙ ap (λ n. range_with_len (first + 1) k ++ range_with_len n m) d)
  where
    e : suc k + m ≡ suc (k + m)
    e = omega arith

    d : first + 1 + k ≡ first + suc k
    d = omega arith
