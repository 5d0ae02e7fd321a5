use Rattle.tx_check.proofs.WordsRead.{numbered_by, not_numbered, no_number}
use Rattle.tx_check.proofs.claims.number_before.Goals as goal

pub returns-in_default : goal.returns-in_default
returns-in_default c = λ limit next others h.
    absurd (not_numbered limit next others c.args.text.now c.in_default.ensures.none h)

pub returns-in_default-number_in : goal.returns-in_default-number_in
returns-in_default-number_in c = λ limit next others h.
    absurd (no_number limit next others c.args.text.now c.in-Some.front.now c.in-Some.rest.now
    c.in-Some.ensures.some c.in-Some.ensures.first c.in_default-number_in.ensures.none h)

pub returns : goal.returns
returns c = λ limit next others h.
    numbered_by limit c.in-Some-number_in.number next others c.args.text.now c.in-Some.front.now
    c.in-Some.rest.now c.in-Some.ensures.some c.in-Some-number_in.ensures.fits
    c.in-Some-number_in.ensures.some h
