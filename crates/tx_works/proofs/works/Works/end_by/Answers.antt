-- The abort, and what it is to the program.
use Rattle.tx_works.specs.Works.{kept_by}
use Rattle.tx_works.proofs.Acts.{ended-is}
use Rattle.tx_works.proofs.works.Works.end_by.Goals as goal

pub returns-clause-value : goal.returns-clause-value
returns-clause-value c rest =
    ended-is c.args.cpu c.args.why c.args.at (kept_by rest c.args.self.now) (kept_by rest c.abort.new.self)
    c.without_reject.result c.outcome_of_abort.result c.outcome_of_abort.ensures c.without_reject.ensures
    (c.abort.ensures.value rest)
