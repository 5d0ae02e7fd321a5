use Rattle.std.proofs.Common.{sym, ◌∙◌}
use Rattle.std.proofs.lemmas.Bool.{false≢true}
use Rattle.report_form.specs.Text.{lines_of}
use Rattle.report_form.proofs.Walks.{past_end, one_line}
use Rattle.report_form.proofs.lines.behind_row.Goals as goal

pub returns-in_err-line-clause-none : goal.returns-in_err-line-clause-none
returns-in_err-line-clause-none c =
    rw c.from_residual.ensures
    (λ h. false≢true ((past_end c.args.last c.args.row (lines_of c.args.text.now) c.args.at.line
    c.in_err-line.ensures.none).1 h))

pub returns-then-not-fits-clause-none : goal.returns-then-not-fits-clause-none
returns-then-not-fits-clause-none c = λ h.
    let one = c.in_ok-line.ensures.some in
    false≢true (sym c.if-not-fits.true
    ∙ (one_line c.args.last c.args.row (lines_of c.args.text.now) c.in_ok-line.line.text.now c.args.at.line c.fits.result
    one.there one.is c.fits.ensures).1 h)

pub returns-clause-some : goal.returns-clause-some
returns-clause-some c =
    let one = c.in_ok-line.ensures.some in
    (one_line c.args.last c.args.row (lines_of c.args.text.now) c.in_ok-line.line.text.now c.args.at.line c.fits.result
    one.there one.is c.fits.ensures).0 c.if-not-fits.false
