-- The block is stored, and this is written down.
use Rattle.std.proofs.Common.{refl, ap}
use Rattle.tx_works.specs.Works.{Works, kept_by}
use Rattle.tx_works.proofs.Acts.{stored-is}
use Rattle.tx_works.proofs.works.Works.store_block.Goals as goal

pub returns-clause-value : goal.returns-clause-value
returns-clause-value c rest =
    stored-is c.args.cpu (kept_by rest c.args.self.now) (kept_by rest c.put_block.new.self)
    (kept_by rest c.write.new.self) c.without_reject.result refl (c.put_block.ensures.value rest)
    (ap (λ (w : Works). kept_by rest w) c.write.ensures) c.without_reject.ensures
