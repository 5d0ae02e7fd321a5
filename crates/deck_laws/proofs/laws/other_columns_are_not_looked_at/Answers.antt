use Rattle.deck_laws.proofs.Alike.{read_alike}
use Rattle.deck_laws.proofs.laws.other_columns_are_not_looked_at.Goals as goal

pub returns : goal.returns
returns c = read_alike
