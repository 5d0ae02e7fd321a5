-- The attempt is aborted, and the reject is told.
use Rattle.tx_works.specs.Works.{kept_by}
use Rattle.tx_works.proofs.Lined.{starved-is, starved-live}
use Rattle.tx_works.proofs.works.Works.starve.Goals as goal

pub end_by-requires-clause-live : goal.end_by-requires-clause-live
end_by-requires-clause-live c rest =
    starved-live c.args.cpu (kept_by rest c.args.self.now) (c.requires.starved rest)

pub end_by-requires-clause-climbs : goal.end_by-requires-clause-climbs
end_by-requires-clause-climbs c rest = (c.requires.asks rest).own (c.requires.behind rest)

pub returns-clause-value : goal.returns-clause-value
returns-clause-value c rest =
    starved-is c.args.cpu c.args.reject c.next_address-at.result (kept_by rest c.args.self.now)
    (kept_by rest c.end_by.new.self) c.end_by.new.turned (c.next_address-at.ensures rest)
    (c.requires.starved rest) (c.end_by.ensures.value rest)
