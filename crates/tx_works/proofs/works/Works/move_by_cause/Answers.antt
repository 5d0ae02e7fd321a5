-- By a conflict the CPU climbs.
use Rattle.std.proofs.Common.{sym, ◌∙◌}
use Rattle.tx_works.specs.Works.{kept_by}
use Rattle.tx_works.proofs.Climbing.{may-climb}
use Rattle.tx_works.proofs.works.Works.move_by_cause.Goals as goal

pub climb-requires-clause-climbs : goal.climb-requires-clause-climbs
climb-requires-clause-climbs c rest =
    may-climb c.args.why (kept_by rest c.args.self.now) c.args.cpu
    (sym c.rung_after.ensures ∙ c.in-Climbs.is) (c.requires.climbs rest)
