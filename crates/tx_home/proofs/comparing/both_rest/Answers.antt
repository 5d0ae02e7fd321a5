-- Neither is live, so that both are at rest.
use Rattle.tx_works.specs.Parts.{local_of}
use Rattle.tx_works.proofs.Doublewords.{rests-so}
use Rattle.tx_home.proofs.Resting.{resting-same, resting-like}
use Rattle.tx_home.proofs.comparing.both_rest.Goals as goal

pub returns-clause-value : goal.returns-clause-value
returns-clause-value c so =
    let p = (local_of c.args.kept.now).attempt in
    let q = (local_of c.args.given.now).attempt in
    resting-same p q
    (c.is_sound.ensures.rests (rests-so p _ _ c.live.ensures c.is_some.ensures c.if-is_some.false))
    (c.is_sound-2.ensures.rests (rests-so q _ _ c.live-else-is_some.ensures c.is_some-else-is_some.ensures
    c.if-is_some-2.false))

pub returns-clause-like : goal.returns-clause-like
returns-clause-like c so cpus =
    let p = (local_of c.args.kept.now).attempt in
    let q = (local_of c.args.given.now).attempt in
    resting-like p q
    (c.is_sound.ensures.rests (rests-so p _ _ c.live.ensures c.is_some.ensures c.if-is_some.false))
    (c.is_sound-2.ensures.rests (rests-so q _ _ c.live-else-is_some.ensures c.is_some-else-is_some.ensures
    c.if-is_some-2.false))
    cpus
