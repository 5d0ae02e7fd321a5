use Rattle.std.proofs.Common.{ap, ◌∙◌, ◌∷◌, ◌++◌, []}
use Rattle.report_form.specs.declared.words.Word.TheVariants.{AtMost}
use Rattle.report_form.specs.Words.{name_text}
use Rattle.tx_check.proofs.claims.labelled_at_end.Goals as goal

pub returns : goal.returns
returns c = λ n limit h.
    let word = c.behind_word-digits.ensures n (AtMost limit) [] h in
    let number = c.number_at_end.ensures limit word.goes_on in
    record {
      cut = word.cut ∙ ap (λ x. name_text n ++ 32 ∷ x) number.cut;
      within = number.within;
    }
