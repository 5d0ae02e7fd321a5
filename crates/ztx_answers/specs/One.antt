-- Exactly one answer.
use Rattle.std.specs.Prelude.{◌≡◌, ℕ, List}

-- something is due
pub record IsSome (due : ℕ → List ℕ → Type 0) : Type 0 where
  pub status : ℕ
  pub text : List ℕ
  pub is_due : due status text

-- both are the same status with the same text
pub record AreSame (status other : ℕ) (text others : List ℕ) : Type 0 where
  pub statuses : status ≡ other
  pub texts : text ≡ others

-- whatever is due is the same
abbrev pub IsOnly : (ℕ → List ℕ → Type 0) → Type 0
IsOnly due = (s t : ℕ) (xs ys : List ℕ) → due s xs → due t ys → AreSame s t xs ys
