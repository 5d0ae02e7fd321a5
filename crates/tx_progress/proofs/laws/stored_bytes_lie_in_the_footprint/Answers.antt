use Rattle.tx_progress.proofs.Facts.{stored_line, stored_block, lasting_line}
use Rattle.tx_progress.proofs.laws.stored_bytes_lie_in_the_footprint.Goals as goal

pub returns-clause-line : goal.returns-clause-line
returns-clause-line c = λ f i a byte local is ok h. stored_line f i a byte local is ok h

pub returns-clause-block : goal.returns-clause-block
returns-clause-block c = λ f i a byte local is ok h. stored_block f i a byte local is ok h

pub returns-clause-lasting : goal.returns-clause-lasting
returns-clause-lasting c = λ f i a byte local is ok h. lasting_line f i a byte local is ok h
