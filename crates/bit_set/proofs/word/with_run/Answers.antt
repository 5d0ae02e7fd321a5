-- The bits of the run are set.
use Rattle.bit_set.proofs.Words.{run_set}
use Rattle.bit_set.proofs.word.with_run.Goals as goal

pub returns : goal.returns
returns c = λ i lt. run_set c.args.word c.args.from c.args.end i c.requires.some c.requires.within lt
