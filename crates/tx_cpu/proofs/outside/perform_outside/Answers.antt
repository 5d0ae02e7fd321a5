-- A CPU without a prefix sees storage as it is.
use Rattle.std.proofs.Common.{sym, ◌∙◌}
use Rattle.tx_attempt.proofs.Bare.{none-so}
use Rattle.tx_cpu.proofs.outside.perform_outside.Goals as goal

pub perform_there-requires-clause-none : goal.perform_there-requires-clause-none
perform_there-requires-clause-none g c =
    none-so c.args.image.now.prefix (sym c.is_some.ensures ∙ c.if-is_some.false)
