use Rattle.deck_laws.proofs.Apart.{told_by_texts}
use Rattle.deck_laws.proofs.laws.texts_tell_decks_apart.Goals as goal

pub returns : goal.returns
returns c = told_by_texts
