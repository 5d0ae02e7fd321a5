use Rattle.tx_private.proofs.Turned.{refreshed_none, refreshed_more}
use Rattle.tx_private.proofs.copying.refresh_lines.Goals as goal

pub loop-line-init : goal.loop-line-init
loop-line-init c = refreshed_none c.args.prefix c.args.from.now c.args.to.now c.args.first c.requires.size

pub loop-line-preserved : goal.loop-line-preserved
loop-line-preserved c =
    refreshed_more c.args.prefix c.args.from.now c.args.to.now c.loop-line.to c.refresh.new.to c.args.first
    c.loop-line.line c.loop-line.auto.line c.loop-line.invariant c.refresh.ensures.copied c.refresh.ensures.others
    c.refresh.ensures.size
