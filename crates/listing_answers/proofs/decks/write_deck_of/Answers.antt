use Rattle.listing_answers.specs.Decks.{IsWrittenDeck}
use Rattle.listing_answers.proofs.DecksGiven.{deck_written}
use Rattle.listing_answers.proofs.Given.{refused_or}
use Rattle.listing_answers.proofs.decks.write_deck_of.Goals as goal

pub returns-in-Ok-clause-due : goal.returns-in-Ok-clause-due
returns-in-Ok-clause-due c =
    deck_written c.args.input.now c.answer_deck.result c.in-Ok.image c.in-Ok.ensures.image
    c.answer_deck.ensures.status c.answer_deck.ensures.text

pub returns-in-Err-clause-due : goal.returns-in-Err-clause-due
returns-in-Err-clause-due c =
    refused_or c.args.input.now c.in-Err.fault c.in-Err.ensures.fault IsWrittenDeck c.refuse.result
    c.refuse.ensures.refusal
