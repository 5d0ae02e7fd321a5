use Rattle.tx_flat.proofs.Kept.{line_restored}
use Rattle.tx_flat.proofs.mending.restore_line.Goals as goal

pub returns-clause-seen : goal.returns-clause-seen
returns-clause-seen c = λ test before.
    line_restored c.args.a.now.turned c.args.line c.line_seen-seen.result c.requires.prefix_in
    c.line_seen-seen.ensures.bytes c.args.storage.now c.args.a.now.seen c.copy_line.new.to c.copy_line.ensures.copied
    c.copy_line.ensures.others test before

pub returns-clause-lasting : goal.returns-clause-lasting
returns-clause-lasting c = λ test before.
    line_restored c.args.a.now.turned c.args.line c.line_seen-seen.result c.requires.prefix_in
    c.line_seen-seen.ensures.bytes c.args.storage.now c.args.a.now.lasting c.copy_line-2.new.to
    c.copy_line-2.ensures.copied c.copy_line-2.ensures.others test before
