use Rattle.z_deck.proofs.Again.{written_is_read}
use Rattle.z_deck.proofs.laws.what_is_written_is_read.Goals as goal

pub returns : goal.returns
returns c = written_is_read
