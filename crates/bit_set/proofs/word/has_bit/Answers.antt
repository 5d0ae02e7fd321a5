use Rattle.bit_set.proofs.Words.{tested}
use Rattle.bit_set.proofs.word.has_bit.Goals as goal

pub returns : goal.returns
returns c = tested c.args.word c.args.at c.requires
