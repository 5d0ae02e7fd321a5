use Rattle.std.proofs.Common.{◌∷◌, []}
use Rattle.report_form.specs.declared.words.Name.TheVariants as name
use Rattle.report_form.specs.declared.words.Word.TheVariants.{Fixed, AtMost}
use Rattle.report_form.specs.Rows.{most}
use Rattle.tx_check.proofs.ClaimLines.{counts_read, counts_row}
use Rattle.tx_check.proofs.claims.read_counts.Goals as goal

pub returns-clause-told : goal.returns-clause-told
returns-clause-told c =
    let h0 = c.behind_word-rest.ensures name.Counts (Fixed name.Turns) (AtMost most ∷ Fixed name.Asked ∷ AtMost most
    ∷ Fixed name.Rejected ∷ AtMost most ∷ Fixed name.Commits ∷ AtMost most ∷ Fixed name.Aborts ∷ AtMost most ∷ [])
    (counts_row c.args.line.now c.requires) in
    let h1 = c.labelled-turns.ensures name.Turns most (Fixed name.Asked) (AtMost most
    ∷ Fixed name.Rejected ∷ AtMost most ∷ Fixed name.Commits ∷ AtMost most ∷ Fixed name.Aborts ∷ AtMost most ∷ [])
    h0.goes_on in
    let h2 = c.labelled-asked.ensures name.Asked most (Fixed name.Rejected) (AtMost most ∷ Fixed name.Commits
    ∷ AtMost most ∷ Fixed name.Aborts ∷ AtMost most ∷ []) h1.goes_on in
    let h3 = c.labelled-rejected.ensures name.Rejected most (Fixed name.Commits) (AtMost most ∷ Fixed name.Aborts
    ∷ AtMost most ∷ []) h2.goes_on in
    let h4 = c.labelled-commits.ensures name.Commits most (Fixed name.Aborts) (AtMost most ∷ []) h3.goes_on in
    let h5 = c.labelled_at_end-aborts.ensures name.Aborts most h4.goes_on in
    counts_read c.args.line.now _ _ _ _ _ _ _ _ _ _ h0.cut h1.cut h2.cut h3.cut h4.cut h5.cut
