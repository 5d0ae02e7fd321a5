use Rattle.tx_check.proofs.WordsRead.{ends_by, not_ended, no_number_at_end}
use Rattle.tx_check.proofs.claims.number_at_end.Goals as goal

pub returns-in_default : goal.returns-in_default
returns-in_default c = λ limit h. absurd (not_ended limit c.args.text.now c.in_default.ensures.none h)

pub returns-in_default-number_in : goal.returns-in_default-number_in
returns-in_default-number_in c = λ limit h.
    absurd (no_number_at_end limit c.args.text.now c.in-Some.front.now c.in-Some.rest.now
    c.in-Some.ensures.some c.in-Some.ensures.first c.in_default-number_in.ensures.none h)

pub returns : goal.returns
returns c = λ limit h.
    ends_by limit c.in-Some-number_in.number c.args.text.now c.in-Some.front.now c.in-Some.rest.now
    c.in-Some.ensures.some c.in-Some.ensures.first c.in-Some-number_in.ensures.some
    c.in-Some-number_in.ensures.fits h
