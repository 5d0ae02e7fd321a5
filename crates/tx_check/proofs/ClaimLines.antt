-- The lines of counts and of attempts, of their words.
use Rattle.std.proofs.Common.{◌≡◌, ◌≢◌, ◌∙◌, ap, ap₂, sym, refl, ℕ, List, [], ◌∷◌, ◌++◌, append_assoc, inl, inr}
use Rattle.std.specs.Prelude.{codes, Some, None}
use Rattle.std.specs.Fmt.{decimal}
use Rattle.report_form.specs.declared.words.Name.TheVariants as name
use Rattle.report_form.specs.declared.rows.Row.TheVariants as row
use Rattle.report_form.specs.Spelling.{Spelled}
use Rattle.report_form.specs.Rows.{IsRow, most, most_completed}
use Rattle.report_form.specs.declared.words.Word.TheVariants.{Fixed, AtMost}
use Rattle.report_text.specs.Digits.{labelled}
use Rattle.report_text.specs.Processor.{counts_line, attempt_line, live_line}

-- two labelled numbers more
label_more : (label digits : List ℕ) (rest more : List ℕ) → rest ≡ more → label ++ (digits ++ rest) ≡ (label ++ digits) ++ more
label_more label digits rest more is = ap (λ r. label ++ (digits ++ r)) is ∙ sym (append_assoc label digits more)

pub counts_told : (t a r c b : ℕ)
    → codes "COUNTS TURNS " ++ (decimal t ++ (codes " ASKED " ++ (decimal a ++ (codes " REJECTED " ++ (decimal r
    ++ (codes " COMMITS " ++ (decimal c ++ (codes " ABORTS " ++ (decimal b ++ 10 ∷ [])))))))))
    ≡ counts_line (record { turns = t; asked = a; rejected = r; commits = c; aborts = b })
unfolding counts_line labelled
counts_told t a r c b =
    label_more (codes "COUNTS TURNS ") (decimal t) _ _
    (label_more (codes " ASKED ") (decimal a) _ _
    (label_more (codes " REJECTED ") (decimal r) _ _
    (label_more (codes " COMMITS ") (decimal c) _ _
    (label_more (codes " ABORTS ") (decimal b) _ _ refl))))

pub live_told : (d n : ℕ)
    → codes "TX DEPTH " ++ (decimal d ++ (codes " COMPLETED " ++ (decimal n ++ 10 ∷ [])))
    ≡ attempt_line (Some (record { depth = d; completed = n }))
unfolding attempt_line live_line labelled
live_told d n =
    label_more (codes "TX DEPTH ") (decimal d) _ _ (label_more (codes " COMPLETED ") (decimal n) _ _ refl)

pub none_told : codes "TX NONE\n" ≡ attempt_line None
unfolding attempt_line
none_told = refl

-- ---- word by word

pub counts_read : (line r0 r1 r2 r3 r4 : List ℕ) (t a r c b : ℕ) → line ≡ codes "COUNTS" ++ 32 ∷ r0
    → r0 ≡ codes "TURNS" ++ 32 ∷ (decimal t ++ 32 ∷ r1) → r1 ≡ codes "ASKED" ++ 32 ∷ (decimal a ++ 32 ∷ r2)
    → r2 ≡ codes "REJECTED" ++ 32 ∷ (decimal r ++ 32 ∷ r3) → r3 ≡ codes "COMMITS" ++ 32 ∷ (decimal c ++ 32 ∷ r4)
    → r4 ≡ codes "ABORTS" ++ 32 ∷ (decimal b ++ 10 ∷ [])
    → line ≡ counts_line (record { turns = t; asked = a; rejected = r; commits = c; aborts = b })
counts_read line r0 r1 r2 r3 r4 t a r c b is0 is1 is2 is3 is4 is5 =
    is0
    ∙ ap (λ x. codes "COUNTS" ++ 32 ∷ x) (is1
    ∙ ap (λ x. codes "TURNS" ++ 32 ∷ (decimal t ++ 32 ∷ x)) (is2
    ∙ ap (λ x. codes "ASKED" ++ 32 ∷ (decimal a ++ 32 ∷ x)) (is3
    ∙ ap (λ x. codes "REJECTED" ++ 32 ∷ (decimal r ++ 32 ∷ x)) (is4
    ∙ ap (λ x. codes "COMMITS" ++ 32 ∷ (decimal c ++ 32 ∷ x)) is5))))
    ∙ counts_told t a r c b

pub live_read : (line r0 r1 : List ℕ) (d n : ℕ) → line ≡ codes "TX" ++ 32 ∷ r0
    → r0 ≡ codes "DEPTH" ++ 32 ∷ (decimal d ++ 32 ∷ r1) → r1 ≡ codes "COMPLETED" ++ 32 ∷ (decimal n ++ 10 ∷ [])
    → line ≡ attempt_line (Some (record { depth = d; completed = n }))
live_read line r0 r1 d n is0 is1 is2 =
    is0
    ∙ ap (λ x. codes "TX" ++ 32 ∷ x) (is1 ∙ ap (λ x. codes "DEPTH" ++ 32 ∷ (decimal d ++ 32 ∷ x)) is2)
    ∙ live_told d n

nothing_read : (line : List ℕ) → Spelled (Fixed name.Transaction ∷ Fixed name.Nothing ∷ []) line
    → line ≡ codes "TX NONE\n"
unfolding Spelled
nothing_read line h =
    h.cut ∙ ap₂ (λ f r. f ++ 32 ∷ r) h.is_word
    (h.goes_on.cut ∙ ap₂ (λ f r. f ++ 10 ∷ r) h.goes_on.is_word h.goes_on.goes_on)

-- a line of an attempt that says more than that there is none
pub claims_one : (line : List ℕ) → IsRow 0 row.Attempt line → line ≢ codes "TX NONE\n"
    → Spelled (Fixed name.Transaction ∷ Fixed name.Depth ∷ AtMost most ∷ Fixed name.Completed
    ∷ AtMost most_completed ∷ []) line
unfolding IsRow
claims_one line (inl none) other = absurd (other (nothing_read line none))
claims_one line (inr some) other = some

pub counts_row : (line : List ℕ) → IsRow 0 row.Counts line
    → Spelled (Fixed name.Counts ∷ Fixed name.Turns ∷ AtMost most ∷ Fixed name.Asked ∷ AtMost most
    ∷ Fixed name.Rejected ∷ AtMost most ∷ Fixed name.Commits ∷ AtMost most
    ∷ Fixed name.Aborts ∷ AtMost most ∷ []) line
unfolding IsRow
counts_row line h = h
