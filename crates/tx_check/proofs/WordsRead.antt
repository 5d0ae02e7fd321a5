-- Lines that are spelled in words, read word by word.
use Rattle.std.proofs.Common.{◌≡◌, ◌≢◌, ◌∙◌, ap, sym, refl, subst, ℕ, ◌<◌, ◌^◌, arith, List, [], ◌∷◌, ◌++◌}
use Rattle.std.specs.Fmt.{decimal}
use Rattle.tx_journal.specs.Numbers.{Lacks}
use Rattle.tx_journal.proofs.Decimals.{same_cut, lacks_not_there, same_start}
use Rattle.report_form.specs.declared.words.Name.{Name}
use Rattle.report_form.specs.declared.words.Word.{Word}
use Rattle.report_form.specs.declared.words.Word.TheVariants.{Fixed, AtMost}
use Rattle.report_form.specs.Words.{IsNumber}
use Rattle.report_form.specs.Spelling.{Spelled}
use Rattle.report_form.proofs.WordLemmas.{word_lacks}
use Rattle.tx_check.specs.Claims.{Named, Numbered, Ends}

-- ---- a name

pub named_by : (n : Name) (next : Word) (others : List Word) (text front rest : List ℕ)
    → text ≡ front ++ 32 ∷ rest → Lacks 32 front → Spelled (Fixed n ∷ next ∷ others) text
    → Named n next others text rest
unfolding Spelled
named_by n next others text front rest cut lacks h =
    let same = same_cut 32 front h.front rest h.rest lacks (word_lacks (Fixed n) 32 h.front (omega arith) h.is_word)
    (sym cut ∙ h.cut) in
    record {
      cut = cut ∙ ap (λ w. w ++ 32 ∷ rest) (same.front ∙ h.is_word);
      goes_on = subst (Spelled (next ∷ others)) (sym same.behind) h.goes_on;
    }

pub not_named : (n : Name) (next : Word) (others : List Word) (text : List ℕ) → Lacks 32 text
    → Spelled (Fixed n ∷ next ∷ others) text → ⊥
unfolding Spelled
not_named n next others text lacks h = lacks_not_there 32 h.front h.rest (subst (Lacks 32) h.cut lacks)

-- ---- a number in front of a blank

pub numbered_by : (limit number : ℕ) (next : Word) (others : List Word) (text front rest : List ℕ)
    → text ≡ front ++ 32 ∷ rest → number < 2 ^ 64 → front ≡ decimal number
    → Spelled (AtMost limit ∷ next ∷ others) text → Numbered limit next others text number rest
unfolding Spelled
numbered_by limit number next others text front rest cut fits is h =
    let w : IsNumber limit h.front = h.is_word in
    let here : text ≡ decimal number ++ 32 ∷ rest = cut ∙ ap (λ f. f ++ 32 ∷ rest) is in
    let same = same_start text number w.number rest h.rest fits w.fits here
    (h.cut ∙ ap (λ f. f ++ 32 ∷ h.rest) w.spelled) in
    record {
      cut = here;
      within = let e = same.number in let low = w.within in omega (arith, e, low);
      goes_on = subst (Spelled (next ∷ others)) (sym same.rest) h.goes_on;
    }

pub not_numbered : (limit : ℕ) (next : Word) (others : List Word) (text : List ℕ) → Lacks 32 text
    → Spelled (AtMost limit ∷ next ∷ others) text → ⊥
unfolding Spelled
not_numbered limit next others text lacks h =
    lacks_not_there 32 h.front h.rest (subst (Lacks 32) h.cut lacks)

pub no_number : (limit : ℕ) (next : Word) (others : List Word) (text front rest : List ℕ)
    → text ≡ front ++ 32 ∷ rest → Lacks 32 front → ((n : ℕ) → n < 2 ^ 64 → front ≢ decimal n)
    → Spelled (AtMost limit ∷ next ∷ others) text → ⊥
unfolding Spelled
no_number limit next others text front rest cut lacks none h =
    let w : IsNumber limit h.front = h.is_word in
    let same = same_cut 32 front h.front rest h.rest lacks
    (word_lacks (AtMost limit) 32 h.front (omega arith) h.is_word) (sym cut ∙ h.cut) in
    none w.number w.fits (same.front ∙ w.spelled)

-- ---- a number at the end of a line

pub ends_by : (limit number : ℕ) (text front rest : List ℕ) → text ≡ front ++ 10 ∷ rest → Lacks 10 front
    → front ≡ decimal number → number < 2 ^ 64 → Spelled (AtMost limit ∷ []) text → Ends limit text number
unfolding Spelled
ends_by limit number text front rest cut lacks is fits h =
    let w : IsNumber limit h.front = h.is_word in
    let same = same_cut 10 front h.front rest h.rest lacks
    (word_lacks (AtMost limit) 10 h.front (omega arith) h.is_word) (sym cut ∙ h.cut) in
    let none : rest ≡ [] = same.behind ∙ h.goes_on in
    let one = same_start (decimal number ++ 32 ∷ []) number w.number [] [] fits w.fits refl
    (ap (λ f. f ++ 32 ∷ []) (sym is ∙ same.front ∙ w.spelled)) in
    record {
      cut = cut ∙ ap (λ f. f ++ 10 ∷ rest) is ∙ ap (λ r. decimal number ++ 10 ∷ r) none;
      within = let e = one.number in let low = w.within in omega (arith, e, low);
    }

pub not_ended : (limit : ℕ) (text : List ℕ) → Lacks 10 text → Spelled (AtMost limit ∷ []) text → ⊥
unfolding Spelled
not_ended limit text lacks h = lacks_not_there 10 h.front h.rest (subst (Lacks 10) h.cut lacks)

pub no_number_at_end : (limit : ℕ) (text front rest : List ℕ) → text ≡ front ++ 10 ∷ rest → Lacks 10 front
    → ((n : ℕ) → n < 2 ^ 64 → front ≢ decimal n) → Spelled (AtMost limit ∷ []) text → ⊥
unfolding Spelled
no_number_at_end limit text front rest cut lacks none h =
    let w : IsNumber limit h.front = h.is_word in
    let same = same_cut 10 front h.front rest h.rest lacks
    (word_lacks (AtMost limit) 10 h.front (omega arith) h.is_word) (sym cut ∙ h.cut) in
    none w.number w.fits (same.front ∙ w.spelled)
