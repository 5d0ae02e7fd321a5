use Rattle.std.proofs.Common.{subst}
use Rattle.z_deck.specs.Said.{IsFault}
use Rattle.z_deck.specs.declared.fault.DeckFault.TheVariants.{Card}
use Rattle.listing_answers.proofs.DecksGiven.{deck_listed, card_refused}
use Rattle.listing_answers.proofs.decks.read_deck_of.Goals as goal

pub returns-in-Ok-clause-due : goal.returns-in-Ok-clause-due
returns-in-Ok-clause-due c =
    deck_listed c.args.input.now c.answer_listing.result c.args.origin c.in-Ok.deck.storage.items c.in-Ok.deck.entry
    c.in-Ok.ensures.deck c.answer_listing.ensures.status c.answer_listing.ensures.text

pub returns-in-Err-Card-clause-due : goal.returns-in-Err-Card-clause-due
returns-in-Err-Card-clause-due c =
    let fault : IsFault c.args.input.now c.args.origin (Card c.in-Err-Card.card c.in-Err-Card.kind) =
    subst (IsFault c.args.input.now c.args.origin) c.in-Err-Card.field-0-is c.in-Err-Card.ensures.fault in
    card_refused c.args.input.now c.refuse_card.result c.args.origin c.in-Err-Card.card c.in-Err-Card.kind fault
    c.refuse_card.ensures.status c.refuse_card.ensures.text
