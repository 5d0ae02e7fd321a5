use Rattle.tx_headline.proofs.Bounds.{conflict_codes, program_codes}
use Rattle.tx_headline.proofs.laws.causes_have_their_codes.Goals as goal

pub returns-clause-conflicts : goal.returns-clause-conflicts
returns-clause-conflicts c = λ why large. conflict_codes why large

pub returns-clause-program : goal.returns-clause-program
returns-clause-program c = λ why large. program_codes why large
