-- Lists that are cut at a line of another kind, and texts that are the same or not.
use Rattle.std.proofs.Common.{◌≡◌, ℕ, ◌⊎◌, Bool, true, false, List, [], ◌∷◌, ◌++◌, Decides, All, refl, sym, ap₂}
use Rattle.std.proofs.Common.{subst, inl, inr}
use Rattle.std.specs.Str.{bytes_eq}
use Rattle.std.proofs.lemmas.Bool.{false≢true}
use Rattle.std.proofs.lemmas.List.Elements.{All-head, All-tail}
use Rattle.std.proofs.lemmas.Slice.Eq.{bytes_eq-Decides}

-- two texts are the same, or they are not
pub same_or_not : (a b : List ℕ) → (a ≡ b) ⊎ (¬ (a ≡ b))
same_or_not a b = by (bytes_eq a b) (bytes_eq-Decides a b)
  where
    by : (t : Bool) → Decides t (a ≡ b) → (a ≡ b) ⊎ (¬ (a ≡ b))
    by true d = inl (d.0 refl)
    by false d = inr (λ e. false≢true (d.1 e))

pub record Same (x y : List ℕ) (xs ys : List (List ℕ)) : Type 0 where
  pub head : x ≡ y
  pub rest : xs ≡ ys

-- lists that are the same have the same first line, and the same behind it
pub same_lines : (x y : List ℕ) (xs ys : List (List ℕ)) → x ∷ xs ≡ y ∷ ys → Same x y xs ys
same_lines x y xs ys is = record { head = cc; rest = cc }

pub record SameCut (b b' c c' : List (List ℕ)) : Type 0 where
  pub before : b ≡ b'
  pub behind : c ≡ c'

-- a line of another kind stands at one place alone where all lines before it are of a kind
module _ (P : List ℕ → Type 0) where
  pub not_among : (before : List (List ℕ)) (line : List ℕ) (behind : List (List ℕ))
      → All P (before ++ line ∷ behind) → P line
  not_among [] line behind all = All-head P line behind all
  not_among (l ∷ ls) line behind all = not_among ls line behind (All-tail P l (ls ++ line ∷ behind) all)

  pub same_cut : (b b' : List (List ℕ)) (x y : List ℕ) (c c' : List (List ℕ)) → All P b → All P b' → ¬ P x
      → ¬ P y → b ++ x ∷ c ≡ b' ++ y ∷ c' → SameCut b b' c c'
  same_cut [] [] x y c c' all all' not_x not_y is =
      record { before = refl; behind = (same_lines x y c c' is).rest }
  same_cut [] (l ∷ ls) x y c c' all all' not_x not_y is =
      let e = same_lines x l c (ls ++ y ∷ c') is in
      absurd (not_x (subst P (sym e.head) (All-head P l ls all')))
  same_cut (l ∷ ls) [] x y c c' all all' not_x not_y is =
      let e = same_lines l y (ls ++ x ∷ c) c' is in
      absurd (not_y (subst P e.head (All-head P l ls all)))
  same_cut (l ∷ ls) (k ∷ ks) x y c c' all all' not_x not_y is =
      let e = same_lines l k (ls ++ x ∷ c) (ks ++ y ∷ c') is in
      let more = same_cut ls ks x y c c' (All-tail P l ls all) (All-tail P k ks all') not_x not_y e.rest in
      record {
        before = ap₂ (λ (z : List ℕ) (zs : List (List ℕ)). z ∷ zs) e.head more.before;
        behind = more.behind;
      }
