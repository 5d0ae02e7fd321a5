-- An octoword that stands among some stands among more, and one more makes the list at most one longer.
use Rattle.std.proofs.Common.{◌≡◌, ℕ, ◌+◌, ◌<◌, ◌≤◌, Bool, true, false, cond, eqb, ltb, List, [], ◌∷◌, length, sym, ap, subst, ◌∙◌, arith}
use Rattle.std.specs.List.{fold}
use Rattle.z_regs.specs.Rising.{with_number}
use Rattle.z_regs.proofs.Elements.{Order, order}
use Rattle.z_regs.proofs.Elements.Order.{Below, Same, Above}
use Rattle.z_regs.proofs.Rising.{below_is, same_is, above_is}

-- one octoword more is at most one longer
pub one_longer_at_most : (found : List ℕ) (o : ℕ) → length (with_number found o) ≤ length found + 1
one_longer_at_most [] o = omega arith
one_longer_at_most (x ∷ rest) o = by_order (ltb x o) (eqb x o) (one_longer_at_most rest o)
  where
    by_order : (less same : Bool) → length (with_number rest o) ≤ length rest + 1
        → length (cond less (x ∷ with_number rest o) (cond same (x ∷ rest) (o ∷ x ∷ rest)))
        ≤ length (x ∷ rest) + 1
    by_order true same more = omega (arith, more)
    by_order false true more = omega arith
    by_order false false more = omega arith

-- the octoword stands in the list, so that it adds nothing
abbrev pub Stands : List ℕ → ℕ → Type 0
Stands found o = with_number found o ≡ found

rest_of : List ℕ → List ℕ
rest_of [] = []
rest_of (x ∷ rest) = rest

-- behind a lower one it stands in the rest
stands_behind : (x o : ℕ) (rest : List ℕ) → x < o → Stands (x ∷ rest) o → Stands rest o
unfolding rest_of
stands_behind x o rest less h = ap rest_of (sym (below_is x rest o less) ∙ h)

-- and where it stands in the rest it stands behind a lower one
stands_in_front : (x o : ℕ) (rest : List ℕ) → x < o → Stands rest o → Stands (x ∷ rest) o
stands_in_front x o rest less h = below_is x rest o less ∙ ap (λ r. x ∷ r) h

-- it stands as the first one
stands_first : (x o : ℕ) (rest : List ℕ) → x ≡ o → Stands (x ∷ rest) o
stands_first x o rest e = subst (λ y. Stands (y ∷ rest) o) (sym e) (same_is rest o)

-- before a higher one it does not stand
not_before : (x o : ℕ) (rest : List ℕ) → o < x → Stands (x ∷ rest) o
    → length (x ∷ rest) + 1 ≤ length (x ∷ rest)
not_before x o rest more h =
    let longer : length (o ∷ x ∷ rest) ≡ length (x ∷ rest) = ap length (sym (above_is x rest o more) ∙ h) in
    omega (arith, longer)

-- an octoword that stands does so beside another one, which is below the first, is the first, or is above it
beside_by : (x o p : ℕ) (rest : List ℕ) → Order x o → Order x p
    → (Stands rest o → Stands (with_number rest p) o)
    → Stands (x ∷ rest) o → Stands (with_number (x ∷ rest) p) o
beside_by x o p rest (Above more) q further h = let no = not_before x o rest more h in absurd (omega arith)
beside_by x o p rest r (Same e) further h = subst (λ xs. Stands xs o) (sym (stands_first x p rest e)) h
beside_by x o p rest (Below less) (Below q) further h =
    subst (λ xs. Stands xs o) (sym (below_is x rest p q))
    (stands_in_front x o (with_number rest p) less (further (stands_behind x o rest less h)))
beside_by x o p rest (Below less) (Above q) further h =
    subst (λ xs. Stands xs o) (sym (above_is x rest p q)) (stands_in_front p o (x ∷ rest) (omega arith) h)
beside_by x o p rest (Same e) (Below q) further h =
    subst (λ xs. Stands xs o) (sym (below_is x rest p q)) (stands_first x o (with_number rest p) e)
beside_by x o p rest (Same e) (Above q) further h =
    subst (λ xs. Stands xs o) (sym (above_is x rest p q)) (stands_in_front p o (x ∷ rest) (omega arith) h)

-- the same for all of them
stands_beside : (found : List ℕ) (o p : ℕ) → Stands found o → Stands (with_number found p) o
stands_beside [] o p h = let longer = ap length h in absurd (omega arith)
stands_beside (x ∷ rest) o p h = beside_by x o p rest (order x o) (order x p) (stands_beside rest o p) h

-- an octoword that stands does so among more
pub stands_among : (found os : List ℕ) (o : ℕ) → Stands found o → Stands (fold with_number found os) o
stands_among found [] o h = h
stands_among found (p ∷ os) o h = stands_among (with_number found p) os o (stands_beside found o p h)
