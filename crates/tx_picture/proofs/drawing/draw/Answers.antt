-- All turns, and the whole history.
use Rattle.std.proofs.Common.{◌∙◌}
use Rattle.tx_watch.proofs.Replaying.{whole_history}
use Rattle.tx_picture.proofs.drawing.draw.Goals as goal

pub returns-clause-whole : goal.returns-clause-whole
returns-clause-whole c first last few =
    c.in_ok-drawn.ensures.entries ∙ c.in_ok-picture.ensures.entries
    ∙ whole_history c.args.window c.args.machine.now first last few
