-- Lines spelled in words, word by word.
use Rattle.std.proofs.Common.{◌≡◌, ℕ, ◌≤◌, Bool, true, false, List, [], ◌∷◌, ◌++◌, length, nat_eq, refl, sym}
use Rattle.std.proofs.lemmas.Bool.Decides.{Decides-eqb}
use Rattle.std.proofs.Common.{Decides, ap, subst, inl, inr, ◌∙◌, arith}
use Rattle.std.specs.Prelude.{◌⊎◌}
use Rattle.tx_journal.specs.Numbers.{Lacks}
use Rattle.tx_journal.proofs.Decimals.{SameCut, same_cut, lacks_not_there}
use Rattle.report_form.specs.declared.words.Word.{Word}
use Rattle.report_form.specs.declared.words.Word.TheVariants.{Fixed, AtMost, Digits, Event}
use Rattle.report_form.specs.Words.{IsWord}
use Rattle.report_form.specs.Spelling.{Spelled, Begins, stop_behind, stop_between}
use Rattle.report_form.proofs.WordLemmas.{word_lacks}

between_low : (w : Word) → stop_between w ≤ 44
between_low (Fixed n) = omega arith
between_low (AtMost limit) = omega arith
between_low (Digits count) = omega arith
between_low (Event last) = omega arith

stop_low : (w : Word) (others : List Word) → stop_behind w others ≤ 44
stop_low w [] = omega arith
stop_low w (next ∷ others) = between_low w

-- no word: nothing stands there
empty_tells : (line : List ℕ) → Decides (nat_eq (length line) 0) (Spelled [] line)
unfolding Spelled
empty_tells [] = (λ t. refl, λ t. refl)
empty_tells (b ∷ bs) = (
  λ t. let none : length (b ∷ bs) ≡ 0 = (Decides-eqb (length (b ∷ bs)) 0).0 t in absurd (omega arith),
  λ t. let none : length (b ∷ bs) ≡ 0 = ap length t in absurd (omega arith),
)

pub nothing_tells : (words : List Word) (line : List ℕ) (b : Bool) → length words ≡ 0
    → b ≡ nat_eq (length line) 0 → Decides b (Spelled words line)
nothing_tells [] line b none is = subst (λ t. Decides t (Spelled [] line)) (sym is) (empty_tells line)
nothing_tells (w ∷ ws) line b none is = absurd (omega arith)

-- no line without the byte behind the first word
pub uncut : (words : List Word) (w : Word) (others : List Word) (line : List ℕ) (stop : ℕ)
    → words ≡ w ∷ others → stop ≡ stop_behind w others → Lacks stop line → Spelled words line → ⊥
unfolding Spelled
uncut words w others line stop are is lacks spelled =
    let h : Begins w (stop_behind w others) (Spelled others) line =
    subst (λ ws. Spelled ws line) are spelled in
    lacks_not_there stop h.front h.rest
    (subst (Lacks stop) (h.cut ∙ ap (λ c. h.front ++ c ∷ h.rest) (sym is)) lacks)

same_begin : (w : Word) (others : List Word) (line front rest : List ℕ) (stop : ℕ)
    → stop ≡ stop_behind w others → line ≡ front ++ stop ∷ rest → Lacks stop front
    → (h : Begins w (stop_behind w others) (Spelled others) line) → SameCut front h.front rest h.rest
same_begin w others line front rest stop is cut lacks h =
    let low : stop ≤ 44 = subst (λ c. c ≤ 44) (sym is) (stop_low w others) in
    same_cut stop front h.front rest h.rest lacks (word_lacks w stop h.front low h.is_word)
    (sym cut ∙ h.cut ∙ ap (λ c. h.front ++ c ∷ h.rest) (sym is))

-- no line that begins with something else
pub other_word : (words : List Word) (w : Word) (others : List Word) (line front rest : List ℕ) (stop : ℕ)
    → words ≡ w ∷ others → stop ≡ stop_behind w others → line ≡ front ++ stop ∷ rest → Lacks stop front
    → ¬ IsWord w front → Spelled words line → ⊥
unfolding Spelled
other_word words w others line front rest stop are is cut lacks other spelled =
    let h : Begins w (stop_behind w others) (Spelled others) line =
    subst (λ ws. Spelled ws line) are spelled in
    let same = same_begin w others line front rest stop is cut lacks h in
    other (subst (IsWord w) (sym same.front) h.is_word)

-- behind the first word the others decide
pub more_tells : (words : List Word) (w : Word) (others : List Word) (line front rest : List ℕ) (stop : ℕ)
    (b : Bool) → words ≡ w ∷ others → stop ≡ stop_behind w others → line ≡ front ++ stop ∷ rest
    → Lacks stop front → IsWord w front → Decides b (Spelled others rest) → Decides b (Spelled words line)
unfolding Spelled
more_tells words w others line front rest stop b are is cut lacks word tells = (
  λ t.
      let h : Begins w (stop_behind w others) (Spelled others) line =
      record {
        front = front;
        rest = rest;
        cut = cut ∙ ap (λ c. front ++ c ∷ rest) is;
        is_word = word;
        goes_on = tells.0 t;
      } in
      subst (λ ws. Spelled ws line) (sym are) h,
  λ spelled.
      let h : Begins w (stop_behind w others) (Spelled others) line =
      subst (λ ws. Spelled ws line) are spelled in
      let same = same_begin w others line front rest stop is cut lacks h in
      tells.1 (subst (Spelled others) (sym same.behind) h.goes_on),
)

-- ---- one way or another

pub first_tells : (P Q : Type 0) (b : Bool) → b ≡ true → Decides b P → Decides true (P ⊎ Q)
first_tells P Q b is tells = (λ t. inl (tells.0 is), λ h. refl)

pub second_tells : (P Q : Type 0) (b c : Bool) → b ≡ false → Decides b P → Decides c Q → Decides c (P ⊎ Q)
second_tells P Q b c is first second = (
  λ t. inr (second.0 t),
  λ h.
      elim h as (λ _. c ≡ true) [
        | inl p ↦ let no : true ≡ false = sym (first.1 p) ∙ is in cc
        | inr q ↦ second.1 q
      ],
)
