-- The line of the operand is there.
use Rattle.tx_works.specs.Works.{kept_by}
use Rattle.tx_works.proofs.Plainly.{is-there}
use Rattle.tx_works.proofs.works.Works.holds_operand.Goals as goal

pub returns : goal.returns
returns c rest text bare reached there =
    is-there c.args.cpu c.args.shape c.args.first text (kept_by rest c.args.self.now) bare reached
    (c.has_operand.ensures there)
