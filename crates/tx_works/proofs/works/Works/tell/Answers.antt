-- Inside or outside.
use Rattle.std.proofs.Common.{subst}
use Rattle.tx_works.specs.Executing.{LeftBy, IsLeft}
use Rattle.tx_works.specs.Works.{kept_by}
use Rattle.tx_works.proofs.works.Works.tell.Goals as goal

pub tell_inside-requires-clause-left : goal.tell_inside-requires-clause-left
tell_inside-requires-clause-left c rest =
    subst (λ b. IsLeft c.args.cpu b c.args.told (kept_by rest c.args.self.now)) c.if-live.true (c.requires.left rest)

pub returns-then-live-clause-value : goal.returns-then-live-clause-value
returns-then-live-clause-value c rest i need k by at =
    c.tell_inside.ensures.value rest i need k
    (subst (λ b. LeftBy c.args.cpu b c.args.told i need k (kept_by rest c.args.self.now)) c.if-live.true by) at

pub tell_outside-requires-clause-left : goal.tell_outside-requires-clause-left
tell_outside-requires-clause-left c rest =
    subst (λ b. IsLeft c.args.cpu b c.args.told (kept_by rest c.args.self.now)) c.if-live.false (c.requires.left rest)

pub returns-clause-value : goal.returns-clause-value
returns-clause-value c rest i need k by at =
    c.tell_outside.ensures.value rest i need k
    (subst (λ b. LeftBy c.args.cpu b c.args.told i need k (kept_by rest c.args.self.now)) c.if-live.false by)
