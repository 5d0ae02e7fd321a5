-- A program interruption, or an abort behind which the program runs on.
use Rattle.std.proofs.Common.{ap, ◌∙◌}
use Rattle.tx_meaning.specs.declared.outcome.Outcome.TheVariants.{Aborted}
use Rattle.tx_works.proofs.Own.{aborted-outcome}
use Rattle.tx_works.proofs.acting.outcome_of_abort.Goals as goal

pub returns : goal.returns
returns c = ap Aborted c.code.ensures ∙ aborted-outcome c.args.why c.in_default.not-Program
