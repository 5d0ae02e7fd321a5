-- The steps of reading an expression from its first token on.
use Rattle.std.proofs.Common.{◌≡◌, ℕ, ◌+◌, ◌≤◌, ◌&&◌, Bool, true, false, ℤ, pos, ◌+ℤ◌, List, [], ◌∷◌, length}
use Rattle.std.proofs.Common.{drop, Option, Some, refl, ap, ◌∙◌, length-drop, arith}
use Rattle.std.proofs.lemmas.Int.{ints}
use Rattle.z_text.proofs.Pieces.{drop_twice}
use Rattle.z_text.specs.Expressions.{begins_signed_term, is_sign, signed_terms_size, sum_of, total}
use Rattle.z_text.specs.declared.labels.Labels.{Labels}
use Rattle.z_text.specs.declared.running.RunningSum.{RunningSum}
use Rattle.z_text.specs.declared.token.Token.{Token}

not_alone : (b : Bool) → (b && false) ≡ true → ⊥
not_alone true e = cc
not_alone false e = cc

size_more : (ts : List Token) → begins_signed_term ts ≡ true →
    signed_terms_size ts ≡ 2 + signed_terms_size (drop 2 ts)
unfolding signed_terms_size
size_more [] e = cc
size_more (s ∷ []) e = absurd (not_alone (is_sign s.kind) e)
size_more (s ∷ t ∷ ts) e = rw e refl

size_none : (ts : List Token) → begins_signed_term ts ≡ false → signed_terms_size ts ≡ 0
unfolding signed_terms_size
size_none [] e = refl
size_none (s ∷ []) e = refl
size_none (s ∷ t ∷ ts) e = rw e refl

pub size_goes_on : (ts : List Token) (i n : ℕ) → begins_signed_term (drop i ts) ≡ true →
    i + signed_terms_size (drop i ts) ≡ n → i + 2 + signed_terms_size (drop (i + 2) ts) ≡ n
size_goes_on ts i n begins inv =
    let more = size_more (drop i ts) begins in
    let rest : drop 2 (drop i ts) ≡ drop (i + 2) ts = drop_twice 2 i ts in
    let at : signed_terms_size (drop 2 (drop i ts)) ≡ signed_terms_size (drop (i + 2) ts) =
    ap signed_terms_size rest in omega (arith, more, at, inv)

pub size_ends : (ts : List Token) (i n : ℕ) → begins_signed_term (drop i ts) ≡ false →
    i + signed_terms_size (drop i ts) ≡ n → i ≡ n
size_ends ts i n ends inv = omega (arith, size_none (drop i ts) ends, inv)

ends_here : (text : List ℕ) (labels : Labels) (here : ℕ) (s : RunningSum) (rest : List Token) (o : Option ℤ) →
    length rest ≤ 0 → total text labels here s rest ≡ o → Some s.value ≡ o
unfolding sum_of
ends_here text labels here s [] o e inv =
    (let z : s.value ≡ s.value +ℤ pos 0 = omega (arith, ints) in ap Some z) ∙ inv
ends_here text labels here s (t ∷ rest) o e inv = absurd (omega arith)

pub sum_ends : (text : List ℕ) (labels : Labels) (here : ℕ) (s : RunningSum) (i : ℕ) (ts : List Token) (o :
    Option ℤ) → length ts ≤ i → total text labels here s (drop i ts) ≡ o → Some s.value ≡ o
sum_ends text labels here s i ts o over inv =
    ends_here text labels here s (drop i ts) o (simp length-drop (omega arith)) inv
