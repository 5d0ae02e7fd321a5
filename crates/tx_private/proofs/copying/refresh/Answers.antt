use Rattle.tx_private.proofs.Turned.{refreshed_line}
use Rattle.tx_private.proofs.copying.refresh.Goals as goal

pub returns-clause-copied : goal.returns-clause-copied
returns-clause-copied c =
    refreshed_line c.args.prefix c.args.from.now c.copy_line.new.to c.args.line c.line_seen-seen.result
    c.line_seen-seen.ensures.bytes c.copy_line.ensures.copied
