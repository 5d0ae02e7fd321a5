use Rattle.std.proofs.Common.{◌∙◌, ap}
use Rattle.tx_private.specs.Done.{is_lasting_kind}
use Rattle.tx_private.proofs.Settled.{lasting_at}
use Rattle.tx_private.proofs.advance.is_lasting.Goals as goal

pub returns : goal.returns
returns c =
    c.stores_for_good.ensures ∙ ap is_lasting_kind c.kind_of.ensures
    ∙ lasting_at c.args.op.number c.args.op.known
