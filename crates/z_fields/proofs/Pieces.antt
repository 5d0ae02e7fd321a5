-- The first piece of a text, and the pieces behind it.
use Rattle.std.proofs.Common.{◌≡◌, ℕ, suc, Bool, true, false, not, cond, if◌then◌else◌, ◌==◌, ◌+◌, ◌<◌, List}
use Rattle.std.proofs.Common.{[], ◌∷◌, ◌++◌, length, map, drop, take, refl, sym, ap, ◌∙◌, arith, append_assoc}
use Rattle.std.proofs.lemmas.List.{map_push}
use Rattle.std.proofs.lemmas.Bool.Decides.{nat_tests}
use denote.Ref.{Bor}
use Rattle.std.specs.List.{prefix_len}
use Rattle.z_fields.specs.Pieces.{pieces_by, onto, is_before, first_size, size_with_end}

size_suc : (m n : ℕ) → size_with_end (1 + m) (suc n) ≡ suc (size_with_end m n)
size_suc m n = grind (arith, nat_tests)

size_zero : (n : ℕ) → size_with_end 0 (suc n) ≡ 1
size_zero n = grind (arith, nat_tests)

first_here : (stop b : ℕ) (bs : List ℕ) (m : ℕ) (t : Bool) →
    onto b (pieces_by stop bs) ≡ (b ∷ take (size_with_end m (length bs)) bs) ∷ pieces_by stop
    (drop (size_with_end m (length bs)) bs) →
    (if t then (b ∷ []) ∷ pieces_by stop bs else onto b (pieces_by stop bs))
    ≡ take (size_with_end (cond (not t) (1 + m) 0) (suc (length bs))) (b ∷ bs) ∷ pieces_by stop
    (drop (size_with_end (cond (not t) (1 + m) 0) (suc (length bs))) (b ∷ bs))
first_here stop b bs m true r = ap (λ k. take k (b ∷ bs) ∷ pieces_by stop (drop k (b ∷ bs)))
    (sym (size_zero (length bs)))
first_here stop b bs m false r =
    r ∙ ap (λ k. take k (b ∷ bs) ∷ pieces_by stop (drop k (b ∷ bs))) (sym (size_suc m (length bs)))

pub pieces_first : (stop : ℕ) (s : List ℕ) → 0 < length s →
    pieces_by stop s ≡ take (first_size stop s) s ∷ pieces_by stop (drop (first_size stop s) s)
unfolding pieces_by
pieces_first stop [] h = absurd (omega arith)
pieces_first stop (b ∷ []) h = first_here stop b [] 0 (b == stop) refl
pieces_first stop (b ∷ c ∷ cs) h =
    let more : 0 < length (c ∷ cs) = omega arith in
    first_here stop b (c ∷ cs) (prefix_len (is_before stop) (c ∷ cs)) (b == stop)
    (ap (onto b) (pieces_first stop (c ∷ cs) more))

pub pieces_none : (stop : ℕ) (s : List ℕ) → length s ≡ 0 → pieces_by stop s ≡ []
unfolding pieces_by
pieces_none stop [] h = refl
pieces_none stop (b ∷ bs) h = absurd (omega arith)

pub pieces_pushed : (stop : ℕ) (ls : List (Bor (List ℕ))) (s rest : List ℕ) (n : ℕ) (l : Bor (List ℕ))
    (whole : List (List ℕ)) → 0 < length s →
    n ≡ first_size stop s → map (λ x. x.now) ls ++ pieces_by stop s ≡ whole → l.now ≡ take n s →
    rest ≡ drop n s →
    map (λ x. x.now) (ls ++ l ∷ []) ++ pieces_by stop rest ≡ whole
pieces_pushed stop ls s rest n l whole h e k i r =
    ap (λ m. m ++ pieces_by stop rest) (map_push (λ (x : Bor (List ℕ)). x.now) ls l)
    ∙ (append_assoc (map (λ x. x.now) ls) (l.now ∷ []) (pieces_by stop rest)
    ∙ (ap (λ t. map (λ x. x.now) ls ++ t ∷ pieces_by stop rest) i
    ∙ (ap (λ d. map (λ x. x.now) ls ++ take n s ∷ pieces_by stop d) r
    ∙ (ap (λ m. map (λ x. x.now) ls ++ take m s ∷ pieces_by stop (drop m s)) e
    ∙ (ap (λ t. map (λ x. x.now) ls ++ t) (sym (pieces_first stop s h)) ∙ k)))))
