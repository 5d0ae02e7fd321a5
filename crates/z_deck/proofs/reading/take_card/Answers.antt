use Rattle.std.proofs.Common.{subst}
use Rattle.z_deck.specs.Said.{Says}
use Rattle.z_deck.specs.declared.card.Card.TheVariants as cards
use Rattle.z_deck.proofs.Decks.{nothing_taken, text_taken, end_taken}
use Rattle.z_deck.proofs.reading.take_card.Goals as goal

pub returns-in-Ok-Nothing-clause-loaded : goal.returns-in-Ok-Nothing-clause-loaded
returns-in-Ok-Nothing-clause-loaded c before l =
    let says : Says c.args.origin c.args.card.now cards.Nothing =
    subst (Says c.args.origin c.args.card.now) c.in-Ok-Nothing.field-0-is c.in-Ok-Nothing.ensures.1 in
    nothing_taken c.args.origin before c.args.card.now c.args.loading.now.storage.items c.requires.size
    c.args.loading.now.end c.is_some.result c.is_some.ensures c.in-Ok-Nothing.ensures.0 says l

pub returns-in-Ok-Text-clause-loaded : goal.returns-in-Ok-Text-clause-loaded
returns-in-Ok-Text-clause-loaded c before l =
    let says : Says c.args.origin c.args.card.now (cards.Text c.in-Ok-Text.first c.in-Ok-Text.bytes) =
    subst (Says c.args.origin c.args.card.now) c.in-Ok-Text.field-0-is c.in-Ok-Text.ensures.1 in
    text_taken c.args.origin before c.args.card.now c.args.loading.now.storage.items c.requires.size
    c.args.loading.now.end c.is_some.result c.is_some.ensures c.in-Ok-Text.ensures.0 c.in-Ok-Text.first
    c.in-Ok-Text.bytes.now c.write_bytes.new.storage.items says.0 says.1 says.2 says.3 c.write_bytes.ensures.is l

pub returns-in-Ok-End-clause-loaded : goal.returns-in-Ok-End-clause-loaded
returns-in-Ok-End-clause-loaded c before l =
    let says : Says c.args.origin c.args.card.now (cards.End c.in-Ok-End.entry) =
    subst (Says c.args.origin c.args.card.now) c.in-Ok-End.field-0-is c.in-Ok-End.ensures.1 in
    end_taken c.args.origin before c.args.card.now c.args.loading.now.storage.items c.requires.size
    c.args.loading.now.end c.is_some.result c.is_some.ensures c.in-Ok-End.ensures.0 c.in-Ok-End.entry says.0 says.1 l
