use Rattle.tx_meaning.proofs.Needs.{needed_lines, needed_modes, needs_rise}
use Rattle.tx_meaning.proofs.laws.the_lines_of_ranges_are_needed.Goals as goal

pub returns-clause-lines : goal.returns-clause-lines
returns-clause-lines c = λ ranges line. needed_lines ranges line

pub returns-clause-modes : goal.returns-clause-modes
returns-clause-modes c = λ ranges. needed_modes ranges

pub returns-clause-rising : goal.returns-clause-rising
returns-clause-rising c = λ ranges. needs_rise ranges
