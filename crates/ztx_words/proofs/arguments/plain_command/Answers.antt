use Rattle.std.proofs.Common.{rules}
use Rattle.ztx_words.specs.Arguments.{plain_app}
use Rattle.ztx_words.proofs.arguments.plain_command.Goals as goal

pub returns : goal.returns
unfolding plain_app
returns c = search rules
