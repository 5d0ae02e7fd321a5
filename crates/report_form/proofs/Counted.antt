-- The line of a count.
use Rattle.std.proofs.Common.{◌≡◌, ◌≢◌, ℕ, ◌<◌, ◌^◌, List, [], ◌∷◌, ◌++◌, refl, sym, ap, subst, ◌∙◌, arith}
use Rattle.std.proofs.Common.{Bool, true, false, not, length, get_or, nat_eq, Option, Some, None}
use Rattle.std.specs.Prelude.{IfSome, IfNone}
use Rattle.std.specs.Str.{bytes_eq}
use Rattle.std.proofs.lemmas.Bool.Decides.{Decides-eqb}
use Rattle.std.proofs.lemmas.Slice.Eq.{bytes_eq-Decides}
use Rattle.std.specs.Fmt.{decimal}
use Rattle.std.proofs.lemmas.Bool.{not-false}
use Rattle.tx_journal.specs.Numbers.{Lacks}
use Rattle.tx_journal.proofs.Decimals.{SameCut, same_cut, lacks_not_there, lacks_number}
use Rattle.report_form.specs.declared.words.Name.{Name}
use Rattle.report_form.specs.declared.words.Word.TheVariants.{Fixed}
use Rattle.report_form.specs.Words.{name_text}
use Rattle.report_form.specs.Sheet.{count_line, Counts}
use Rattle.report_form.proofs.WordLemmas.{word_lacks}

pub name_lacks : (n : Name) → Lacks 32 (name_text n)
name_lacks n = word_lacks (Fixed n) 32 (name_text n) (omega arith) refl

-- no count where there is no blank
pub no_blank : (n : Name) (line : List ℕ) (count : ℕ) → Lacks 32 line → line ≢ count_line n count
no_blank n line count lacks is =
    lacks_not_there 32 (name_text n) (decimal count ++ 10 ∷ []) (subst (Lacks 32) is lacks)

-- what stands before and behind the blank
pub split_count : (n : Name) (line word rest : List ℕ) (count : ℕ) → line ≡ word ++ 32 ∷ rest
    → Lacks 32 word → line ≡ count_line n count
    → SameCut word (name_text n) rest (decimal count ++ 10 ∷ [])
split_count n line word rest count cut lacks is =
    same_cut 32 word (name_text n) rest (decimal count ++ 10 ∷ []) lacks (name_lacks n) (sym cut ∙ is)

-- no count without an end
pub no_end : (n : Name) (line word rest : List ℕ) (count : ℕ) → line ≡ word ++ 32 ∷ rest
    → Lacks 32 word → Lacks 10 rest → line ≢ count_line n count
no_end n line word rest count cut lacks unended is =
    let same = split_count n line word rest count cut lacks is in
    lacks_not_there 10 (decimal count) [] (subst (Lacks 10) same.behind unended)

pub split_end : (n : Name) (line word rest digits behind : List ℕ) (count : ℕ) → count < 2 ^ 64
    → line ≡ word ++ 32 ∷ rest → Lacks 32 word → rest ≡ digits ++ 10 ∷ behind → Lacks 10 digits
    → line ≡ count_line n count → SameCut digits (decimal count) behind []
split_end n line word rest digits behind count few cut lacks ends unended is =
    let same = split_count n line word rest count cut lacks is in
    same_cut 10 digits (decimal count) behind [] unended (lacks_number 10 count few (omega arith))
    (sym ends ∙ same.behind)

pub counted : (n : Name) (line word rest digits behind : List ℕ) (count : ℕ) → line ≡ word ++ 32 ∷ rest
    → word ≡ name_text n → rest ≡ digits ++ 10 ∷ behind → behind ≡ [] → digits ≡ decimal count
    → line ≡ count_line n count
counted n line word rest digits behind count cut name ends none number =
    cut ∙ ap (λ w. w ++ 32 ∷ rest) name
    ∙ ap (λ r. name_text n ++ 32 ∷ r)
    (ends ∙ ap (λ d. d ++ 10 ∷ behind) number ∙ ap (λ b. decimal count ++ 10 ∷ b) none)

-- ---- by what a reader of numbers says

pub some_count : (n : Name) (line word rest digits behind : List ℕ) (o : Option ℕ)
    → line ≡ word ++ 32 ∷ rest → word ≡ name_text n → rest ≡ digits ++ 10 ∷ behind → behind ≡ []
    → IfSome o (λ count. digits ≡ decimal count) → IfSome o (λ count. line ≡ count_line n count)
some_count n line word rest digits behind None cut name ends none number = tt
some_count n line word rest digits behind (Some count) cut name ends none number =
    counted n line word rest digits behind count cut name ends none number

pub none_counted : (n : Name) (line word rest digits behind : List ℕ) (o : Option ℕ)
    → line ≡ word ++ 32 ∷ rest → Lacks 32 word → rest ≡ digits ++ 10 ∷ behind → Lacks 10 digits
    → IfNone o ((count : ℕ) → count < 2 ^ 64 → digits ≢ decimal count)
    → IfNone o ((count : ℕ) → count < 2 ^ 64 → line ≢ count_line n count)
none_counted n line word rest digits behind (Some count) cut lacks ends unended none = tt
none_counted n line word rest digits behind None cut lacks ends unended none = λ count few is.
    none count few (split_end n line word rest digits behind count few cut lacks ends unended is).front

-- texts that are not found to differ are equal
pub equal_then : (a b : List ℕ) (r : Bool) → r ≡ not (bytes_eq a b) → r ≡ false → a ≡ b
equal_then a b r is same =
    let equal : bytes_eq a b ≡ true = not-false (bytes_eq a b) (sym is ∙ same) in (bytes_eq-Decides a b).0 equal

pub empty_is : (xs : List ℕ) (b : Bool) → b ≡ nat_eq (length xs) 0 → b ≡ true → xs ≡ []
empty_is [] b is t = refl
empty_is (x ∷ xs) b is t =
    let none : length (x ∷ xs) ≡ 0 = (Decides-eqb (length (x ∷ xs)) 0).0 (sym is ∙ t) in absurd (omega arith)

-- ---- at a place

pub some_there : (n : Name) (lines : List (List ℕ)) (line : List ℕ) (at : ℕ) (o : Option ℕ)
    → at < length lines → get_or lines at [] ≡ line → IfSome o (λ count. line ≡ count_line n count)
    → IfSome o (λ count. count < 2 ^ 64) → IfSome o (λ count. Counts n lines at count)
some_there n lines line at None there is told fits = tt
some_there n lines line at (Some count) there is told fits = record { fits = fits; there = there; is = is ∙ told }

pub none_there : (n : Name) (lines : List (List ℕ)) (line : List ℕ) (at : ℕ) (o : Option ℕ)
    → get_or lines at [] ≡ line → IfNone o ((count : ℕ) → count < 2 ^ 64 → line ≢ count_line n count)
    → IfNone o ((count : ℕ) → ¬ Counts n lines at count)
none_there n lines line at (Some count) is none = tt
none_there n lines line at None is none = λ count h. none count h.fits (sym is ∙ h.is)
