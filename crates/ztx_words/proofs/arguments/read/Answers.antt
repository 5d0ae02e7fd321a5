use Rattle.std.proofs.Common.{rules}
use Rattle.ztx_words.specs.Arguments.{read_rule}
use Rattle.ztx_words.proofs.arguments.read.Goals as goal

pub returns-clause-rule : goal.returns-clause-rule
unfolding read_rule
returns-clause-rule c = search rules
