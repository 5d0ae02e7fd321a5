-- What the test of addressing says of bytes.
use Rattle.z_touch.proofs.SmallRanges.{inside_without, inside_with}
use Rattle.z_touch.proofs.laws.operands_inside_are_accessible.Goals as goal

pub returns-clause-without : goal.returns-clause-without
returns-clause-without c = inside_without

pub returns-clause-with_prefix : goal.returns-clause-with_prefix
returns-clause-with_prefix c = inside_with
