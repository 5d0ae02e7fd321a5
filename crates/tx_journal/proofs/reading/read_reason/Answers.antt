use Rattle.std.proofs.Common.{subst, sym}
use Rattle.tx_journal.specs.Lines.{HasDetail, detail_text}
use Rattle.tx_journal.proofs.Decimals.{same_start}
use Rattle.tx_journal.proofs.reading.read_reason.Goals as goal

pub returns-in_err-detail-clause-none : goal.returns-in_err-detail-clause-none
returns-in_err-detail-clause-none c =
    rw c.from_residual-in_err-detail.ensures
    (λ r sound is.
    let same =
    same_start c.args.text.now c.in_ok-code.code r.code c.in_ok-code.rest.now (detail_text r.detail)
    c.in_ok-code.ensures.fits sound.fits c.in_ok-code.ensures.some is in
    c.in_err-detail.ensures.none r.detail
    (subst (λ code. HasDetail code r.detail) (sym same.number) sound.detail) same.rest)
