use Rattle.tx_progress.proofs.Limits.{footprint_limits, footprint_lines, stored_inside, lasting_inside}
use Rattle.tx_progress.proofs.laws.footprints_keep_the_limits.Goals as goal

pub returns-clause-limits : goal.returns-clause-limits
returns-clause-limits c = λ f i local is. footprint_limits f i local is

pub returns-clause-lines : goal.returns-clause-lines
returns-clause-lines c = λ f i line local is ok h. footprint_lines f i line local is ok h

pub returns-clause-stored : goal.returns-clause-stored
returns-clause-stored c = λ f i a byte local is ok h. stored_inside f i a byte local is ok h

pub returns-clause-lasting : goal.returns-clause-lasting
returns-clause-lasting c = λ f i a byte local is ok h. lasting_inside f i a byte local is ok h
