use Rattle.std.proofs.Common.{arith}
use Rattle.bit_set.proofs.Words.{none_high, lowest_high}
use Rattle.bit_set.proofs.word.lowest_from.Goals as goal

pub returns-then-high-eq0-clause-none : goal.returns-then-high-eq0-clause-none
returns-then-high-eq0-clause-none c = none_high c.args.word c.args.from c.requires c.if-high-eq0.true

pub returns-else-high-eq0-clause-found : goal.returns-else-high-eq0-clause-found
returns-else-high-eq0-clause-found c =
    lowest_high c.args.word c.args.from c.requires (omega arith) c.if-high-eq0.false
