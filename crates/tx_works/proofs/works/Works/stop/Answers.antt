-- The exception stops the program, and this is written down.
use Rattle.std.proofs.Common.{refl, ap}
use Rattle.tx_works.specs.Works.{Works, kept_by}
use Rattle.tx_works.proofs.Acts.{stopping-is}
use Rattle.tx_works.proofs.works.Works.stop.Goals as goal

pub returns-clause-value : goal.returns-clause-value
returns-clause-value c rest =
    stopping-is c.args.cpu c.args.e (kept_by rest c.args.self.now) (kept_by rest c.halt.new.self)
    (kept_by rest c.write.new.self) c.without_reject.result
    (record { counted = refl; live_is = c.requires.live rest }) (c.halt.ensures.value rest)
    (ap (λ (w : Works). kept_by rest w) c.write.ensures) c.without_reject.ensures
