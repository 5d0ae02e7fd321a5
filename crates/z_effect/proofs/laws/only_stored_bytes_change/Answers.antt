use Rattle.z_effect.proofs.laws.only_stored_bytes_change.Goals as goal
use Rattle.z_effect.proofs.Stored.{same_size, same_elsewhere}

pub returns-clause-size : goal.returns-clause-size
returns-clause-size c = same_size

pub returns-clause-others : goal.returns-clause-others
returns-clause-others c = same_elsewhere
