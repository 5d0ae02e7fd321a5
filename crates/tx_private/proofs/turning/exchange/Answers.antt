use Rattle.tx_private.proofs.Turned.{exchanged}
use Rattle.tx_private.proofs.turning.exchange.Goals as goal

pub returns : goal.returns
returns c =
    exchanged c.args.before c.args.prefix c.args.storage.now c.args.copy.now c.refresh_lines.new.to
    c.refresh_lines-2.new.to c.refresh_lines-3.new.to c.own_area-old.result c.own_area-new.result c.requires.before_in
    c.requires.prefix_in c.requires.size c.requires.before c.own_area-old.ensures.others c.own_area-new.ensures.others
    (record {
      copied = c.refresh_lines.ensures.copied;
      others = c.refresh_lines.ensures.others;
      size = c.refresh_lines.ensures.size;
    })
    (record {
      copied = c.refresh_lines-2.ensures.copied;
      others = c.refresh_lines-2.ensures.others;
      size = c.refresh_lines-2.ensures.size;
    })
    (record {
      copied = c.refresh_lines-3.ensures.copied;
      others = c.refresh_lines-3.ensures.others;
      size = c.refresh_lines-3.ensures.size;
    })
