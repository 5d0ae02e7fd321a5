use Rattle.z_text.proofs.Filled.{filled}
use Rattle.z_text.proofs.line.tokens.Goals as goal

pub returns-clause-filled : goal.returns-clause-filled
returns-clause-filled c = filled c.args.text.now _ c.in_ok-read_tokens.ensures.value
