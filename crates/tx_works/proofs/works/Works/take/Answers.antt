-- The interruption comes, and this is written down.
use Rattle.std.proofs.Common.{refl, ap}
use Rattle.tx_works.specs.Works.{Works, kept_by}
use Rattle.tx_works.proofs.Acts.{taken-is}
use Rattle.tx_works.proofs.works.Works.take.Goals as goal

pub returns-clause-value : goal.returns-clause-value
returns-clause-value c rest =
    taken-is c.args.cpu (kept_by rest c.args.self.now) (kept_by rest c.interrupt.new.self)
    (kept_by rest c.write.new.self) c.without_reject.result
    (record { counted = refl; live_is = c.requires.live rest }) (c.interrupt.ensures.value rest)
    (ap (λ (w : Works). kept_by rest w) c.write.ensures) c.without_reject.ensures
