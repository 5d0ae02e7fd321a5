use Rattle.std.proofs.Common.{◌≡◌, ◌≢◌, ◌∙◌, ◌∷◌, [], ◌≤◌, arith, true, false, sym, codes}
use Rattle.std.proofs.lemmas.Bool.{true≢false}
use Rattle.report_form.specs.declared.words.Name.TheVariants as name
use Rattle.report_form.specs.declared.words.Word.TheVariants.{Fixed, AtMost}
use Rattle.report_form.specs.Rows.{most, most_completed}
use Rattle.tx_check.proofs.ClaimLines.{claims_one, live_read, none_told}
use Rattle.tx_check.proofs.claims.read_attempt.Goals as goal

pub returns-then-claims_none-clause-told : goal.returns-then-claims_none-clause-told
returns-then-claims_none-clause-told c = c.claims_none.ensures.0 c.if-claims_none.true ∙ none_told

pub overflow_cast-result : goal.overflow_cast-result
overflow_cast-result c =
    let other : c.args.line.now ≢ codes "TX NONE\n" = λ is.
    let no : true ≡ false = sym (c.claims_none.ensures.1 is) ∙ c.if-claims_none.false in true≢false no in
    let h0 = c.behind_word-rest.ensures name.Transaction (Fixed name.Depth)
    (AtMost most ∷ Fixed name.Completed ∷ AtMost most_completed ∷ [])
    (claims_one c.args.line.now c.requires other) in
    let h1 = c.labelled-depth.ensures name.Depth most (Fixed name.Completed) (AtMost most_completed ∷ [])
    h0.goes_on in
    let h2 = c.labelled_at_end-completed.ensures name.Completed most_completed h1.goes_on in
    let low : c.labelled_at_end-completed.result ≤ 200000 = h2.within in
    omega (arith, low)

pub returns-clause-told : goal.returns-clause-told
returns-clause-told c =
    let other : c.args.line.now ≢ codes "TX NONE\n" = λ is.
    let no : true ≡ false = sym (c.claims_none.ensures.1 is) ∙ c.if-claims_none.false in true≢false no in
    let h0 = c.behind_word-rest.ensures name.Transaction (Fixed name.Depth)
    (AtMost most ∷ Fixed name.Completed ∷ AtMost most_completed ∷ [])
    (claims_one c.args.line.now c.requires other) in
    let h1 = c.labelled-depth.ensures name.Depth most (Fixed name.Completed) (AtMost most_completed ∷ [])
    h0.goes_on in
    let h2 = c.labelled_at_end-completed.ensures name.Completed most_completed h1.goes_on in
    live_read c.args.line.now _ _ _ _ h0.cut h1.cut h2.cut
