use Rattle.tx_constraint.proofs.Whole.{own_pages}
use Rattle.tx_constraint.proofs.laws.pages_are_those_of_the_bytes.Goals as goal

pub returns : goal.returns
returns c = own_pages
