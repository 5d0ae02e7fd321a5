use Rattle.tx_flat.proofs.Kept.{line_kept}
use Rattle.tx_flat.proofs.mending.keep_line.Goals as goal

pub returns-clause-kept : goal.returns-clause-kept
returns-clause-kept c = λ test before.
    line_kept c.args.a.now.turned c.args.line c.line_seen-seen.result c.requires.prefix_in c.line_seen-seen.ensures.bytes
    c.args.a.now.seen c.args.storage.now c.copy_line.new.to c.args.a.now.lasting c.copy_line-2.new.to
    c.copy_line.ensures.copied c.copy_line.ensures.others c.copy_line-2.ensures.copied c.copy_line-2.ensures.others
    test before
