-- The steps of reading pairs of hex digits.
use Rattle.std.proofs.Common.{◌≡◌, ℕ, List, [], ◌∷◌, ◌++◌, length, Option, Some, None, refl, ap, arith, ◌<◌}
use Rattle.std.proofs.Common.{◌≤◌, get_or, drop, if◌then◌else◌, append_assoc}
use Rattle.z_fields.specs.Data.{byte_of, prepend, is_quote, pairs_of}

pub pair_on : (front s : List ℕ) (n : ℕ) → 2 ≤ length s → byte_of (get_or s 0 0) (get_or s 1 0) ≡ Some n →
    prepend (front ++ n ∷ []) (pairs_of (drop 2 s)) ≡ prepend front (pairs_of s)
unfolding pairs_of
pair_on front [] n long e = absurd (omega arith)
pair_on front (a ∷ []) n long e = absurd (omega arith)
pair_on front (a ∷ b ∷ rest) n long e = rw e (joined (pairs_of rest))
  where
    joined : (o : Option (List ℕ)) → prepend (front ++ n ∷ []) o ≡ prepend front (prepend (n ∷ []) o)
    joined None = refl
    joined (Some bs) = ap Some (append_assoc front _ bs)

pub no_pair : (s : List ℕ) → 2 ≤ length s → byte_of (get_or s 0 0) (get_or s 1 0) ≡ None → pairs_of s ≡ None
unfolding pairs_of
no_pair [] long e = absurd (omega arith)
no_pair (a ∷ []) long e = absurd (omega arith)
no_pair (a ∷ b ∷ rest) long e = rw e refl

pub pairs_end : (s : List ℕ) → length s < 2 → pairs_of s ≡ (if is_quote s then Some [] else None)
unfolding pairs_of
pairs_end [] short = refl
pairs_end (a ∷ []) short = refl
pairs_end (a ∷ b ∷ rest) short = absurd (omega arith)
