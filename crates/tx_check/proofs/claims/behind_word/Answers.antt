use Rattle.tx_check.proofs.WordsRead.{named_by, not_named}
use Rattle.tx_check.proofs.claims.behind_word.Goals as goal

pub returns-in_default : goal.returns-in_default
returns-in_default c = λ n next others h. absurd (not_named n next others c.args.text.now c.in_default.ensures.none h)

pub returns : goal.returns
returns c = λ n next others h.
    named_by n next others c.args.text.now c.in-Some.front.now c.in-Some.rest.now c.in-Some.ensures.some
    c.in-Some.ensures.first h
