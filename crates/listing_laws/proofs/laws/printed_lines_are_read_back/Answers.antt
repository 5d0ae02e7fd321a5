use Rattle.listing_laws.proofs.Assembled.{takes_again, gives_back}
use Rattle.listing_laws.proofs.laws.printed_lines_are_read_back.Goals as goal

pub returns-clause-operation : goal.returns-clause-operation
returns-clause-operation c = takes_again

pub returns-clause-bytes : goal.returns-clause-bytes
returns-clause-bytes c = gives_back
