use Rattle.tx_opacity.proofs.Opaque.{opaque}
use Rattle.tx_opacity.proofs.laws.an_attempt_sees_one_run.Goals as goal

pub returns : goal.returns
returns c = λ m events e setting known within. opaque m setting events e known within
