use Rattle.tx_progress.proofs.Parts.{rests}
use Rattle.tx_progress.proofs.Facts.{live_nest, live_runs, keeps_prefix}
use Rattle.tx_progress.proofs.laws.a_live_attempt_is_open.Goals as goal

pub returns-clause-rests : goal.returns-clause-rests
returns-clause-rests c = λ f i local is h. rests f i local is h

pub returns-clause-nest : goal.returns-clause-nest
returns-clause-nest c = λ f i local is h. live_nest f i local is h

pub returns-clause-running : goal.returns-clause-running
returns-clause-running c = λ f i local is h. live_runs f i local is h

pub returns-clause-prefix : goal.returns-clause-prefix
returns-clause-prefix c = λ f i local is. keeps_prefix f i local is
