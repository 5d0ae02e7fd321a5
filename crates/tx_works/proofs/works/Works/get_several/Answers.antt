-- Nobody is asked for what is there.
use Rattle.tx_works.specs.Works.{kept_by}
use Rattle.tx_meaning.specs.Needs.{needs_of}
use Rattle.tx_works.proofs.Held.{all-got}
use Rattle.tx_works.proofs.works.Works.get_several.Goals as goal

pub returns-then-holds_both-clause-kept : goal.returns-then-holds_both-clause-kept
returns-then-holds_both-clause-kept c rest m cpus =
    all-got m c.args.cpu (kept_by rest c.args.self.now) (needs_of c.args.ranges.now)
    (c.holds_both.ensures c.if-holds_both.true)
