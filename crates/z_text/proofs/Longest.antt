-- The longest expression, by the grammar.
use Rattle.std.proofs.Common.{◌≡◌, ℕ, zero, suc, ◌+◌, ◌-◌, ◌<◌, ◌≤◌, ◌==◌, ◌&&◌, Bool, true, false, List, []}
use Rattle.std.proofs.Common.{◌∷◌, length, take, drop, Some, None, length-drop, refl, ap, ◌∙◌, arith}
use Rattle.std.specs.Prelude.{if◌then◌else◌}
use Rattle.z_text.specs.Expressions.{are_signed_terms, end_of, expression_size, is_expression, is_sign}
use Rattle.z_text.specs.Expressions.{is_term, IsLongest, signed_terms_size}
use Rattle.z_text.specs.declared.token.Token.{Token}

pair_longest : (b r : Bool) (k m : ℕ) → (if b then 2 + k else 0) < suc (suc m) → (k < m → r ≡ false) →
    (b && r) ≡ false
pair_longest true r k m h f = f (omega arith)
pair_longest false r k m h f = refl

signed_longest : (ts : List Token) (n : ℕ) → signed_terms_size ts < n → n ≤ length ts →
    are_signed_terms (take n ts) ≡ false
unfolding signed_terms_size
signed_longest [] n more fits = absurd (omega arith)
signed_longest (s ∷ []) zero more fits = absurd (omega arith)
signed_longest (s ∷ []) (suc zero) more fits = refl
signed_longest (s ∷ []) (suc (suc m)) more fits = absurd (omega arith)
signed_longest (s ∷ t ∷ ts) zero more fits = absurd (omega arith)
signed_longest (s ∷ t ∷ ts) (suc zero) more fits = refl
signed_longest (s ∷ t ∷ ts) (suc (suc m)) more fits =
    pair_longest (is_sign s.kind && is_term t.kind) (are_signed_terms (take m ts))
    (signed_terms_size ts) m more (λ h. signed_longest ts m h (omega arith))

pair_is : (b : Bool) (s t : Token) (ts : List Token) (k : ℕ) → (is_sign s.kind && is_term t.kind) ≡ b →
    are_signed_terms (take k ts) ≡ true → are_signed_terms (take (if b then 2 + k else 0) (s ∷ t ∷ ts)) ≡ true
pair_is true s t ts k pair rest =
    let e : 2 + k ≡ suc (suc k) = omega arith in ap (λ n. are_signed_terms (take n (s ∷ t ∷ ts))) e ∙
    (ap (λ b. b && are_signed_terms (take k ts)) pair ∙ rest)
pair_is false s t ts k pair rest = refl

signed_is : (ts : List Token) → are_signed_terms (take (signed_terms_size ts) ts) ≡ true
unfolding signed_terms_size
signed_is [] = refl
signed_is (s ∷ []) = refl
signed_is (s ∷ t ∷ ts) =
    pair_is (is_sign s.kind && is_term t.kind) s t ts (signed_terms_size ts) refl (signed_is ts)

choice_longest : (b : Bool) (t : Token) (ts : List Token) (m : ℕ) → (if b then 1 + signed_terms_size ts
    else signed_terms_size (t ∷ ts)) < suc m → suc m ≤ length (t ∷ ts) →
    (if b then are_signed_terms (take m ts) else are_signed_terms (t ∷ take m ts)) ≡ false
choice_longest true t ts m more fits = signed_longest ts m (omega arith) (omega arith)
choice_longest false t ts m more fits = signed_longest (t ∷ ts) (suc m) more fits

whole_longest : (ts : List Token) (n : ℕ) → expression_size ts < n → n ≤ length ts →
    is_expression (take n ts) ≡ false
unfolding expression_size
whole_longest [] n more fits = absurd (omega arith)
whole_longest (t ∷ ts) zero more fits = absurd (omega arith)
whole_longest (t ∷ ts) (suc m) more fits = choice_longest (is_term t.kind) t ts m more fits

no_term_first : (n : ℕ) (t : Token) (ts : List Token) → 0 < n → is_term t.kind ≡ false →
    is_expression (take n (t ∷ ts)) ≡ are_signed_terms (take n (t ∷ ts))
no_term_first zero t ts some e = absurd (omega arith)
no_term_first (suc m) t ts some e = rw e refl

choice_is : (b : Bool) (t : Token) (ts : List Token) → is_term t.kind ≡ b →
    0 < (if b then 1 + signed_terms_size ts else signed_terms_size (t ∷ ts)) →
    is_expression (take (if b then 1 + signed_terms_size ts else signed_terms_size (t ∷ ts)) (t ∷ ts)) ≡ true
choice_is true t ts e some =
    let n : 1 + signed_terms_size ts ≡ suc (signed_terms_size ts) = omega arith in
    ap (λ k. is_expression (take k (t ∷ ts))) n ∙
    (ap (λ b. if b then are_signed_terms (take (signed_terms_size ts) ts)
    else are_signed_terms (t ∷ take (signed_terms_size ts) ts)) e ∙ signed_is ts)
choice_is false t ts e some = no_term_first _ t ts some e ∙ signed_is (t ∷ ts)

whole_is : (ts : List Token) → 0 < expression_size ts → is_expression (take (expression_size ts) ts) ≡ true
unfolding expression_size signed_terms_size
whole_is [] some = absurd (omega arith)
whole_is (t ∷ ts) some = choice_is (is_term t.kind) t ts refl some

none_of_none : (n : ℕ) (ts : List Token) → expression_size ts ≡ 0 → n ≤ length ts →
    is_expression (take n ts) ≡ false
none_of_none zero ts e fits = refl
none_of_none (suc m) ts e fits = whole_longest ts (suc m) (omega arith) fits

by_size : (ts : List Token) (at : ℕ) → at ≤ length ts → (b : Bool) → (expression_size (drop at ts) == 0) ≡ b →
    IsLongest ts at (if b then None else Some (at + expression_size (drop at ts)))
by_size ts at place true e = λ end fits.
    let none : expression_size (drop at ts) ≡ 0 =
    grind arith in none_of_none (end - at) (drop at ts) none (simp length-drop (omega arith))
by_size ts at place false e =
    let some : 0 < expression_size (drop at ts) = grind arith in
    let n : (at + expression_size (drop at ts)) - at ≡ expression_size (drop at ts) = omega arith in (
      ap (λ k. is_expression (take k (drop at ts))) n ∙ whole_is (drop at ts) some,
      λ longer more fits. whole_longest (drop at ts) (longer - at) (omega arith)
          (simp length-drop (omega arith)),
    )

pub longest : (ts : List Token) (at : ℕ) → at ≤ length ts → IsLongest ts at (end_of ts at)
longest ts at place = by_size ts at place (expression_size (drop at ts) == 0) refl
