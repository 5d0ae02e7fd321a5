-- Nothing else is stored.
use Rattle.tx_step.proofs.Touched.{bytes_stay, lines_stay}
use Rattle.tx_step.proofs.laws.a_turn_changes_what_is_touched.Goals as goal

pub returns-clause-bytes : goal.returns-clause-bytes
returns-clause-bytes c = λ m events e a s known within clear off. bytes_stay m s events known e within a clear off

pub returns-clause-lines : goal.returns-clause-lines
returns-clause-lines c = λ m events e j line s known within clear off.
    lines_stay m s events known e within j line clear off
