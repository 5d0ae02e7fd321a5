use Rattle.deck_laws.proofs.Whole.{assembled}
use Rattle.deck_laws.proofs.laws.deck_listings_are_assembled.Goals as goal

pub returns : goal.returns
returns c = assembled
