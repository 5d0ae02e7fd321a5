use Rattle.input_parts.proofs.One.{one_way, some_way}
use Rattle.input_parts.proofs.laws.an_input_is_parted_in_one_way.Goals as goal

pub returns-clause-some : goal.returns-clause-some
returns-clause-some c = some_way

pub returns-clause-one : goal.returns-clause-one
returns-clause-one c = one_way
