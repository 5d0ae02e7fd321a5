use Rattle.ztx_answers.proofs.Asked.{long_deck_due, long_due}
use Rattle.ztx_answers.proofs.requests.refuse_long.Goals as goal

pub returns-in_default-clause-due : goal.returns-in_default-clause-due
returns-in_default-clause-due c =
    let told = c.refuse_long_listing.ensures in
    long_due c.refuse_long_listing.result told.status told.text c.args.request c.in_default.not-ReadDeck

pub returns-in-ReadDeck-clause-due : goal.returns-in-ReadDeck-clause-due
returns-in-ReadDeck-clause-due c =
    let told = c.refuse_long_deck.ensures in
    long_deck_due c.in-ReadDeck.origin c.refuse_long_deck.result told.status told.text c.args.request
    c.in-ReadDeck.is
