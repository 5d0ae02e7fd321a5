use Rattle.report_text.proofs.Blocks.{line_told}
use Rattle.report_text.proofs.laws.a_block_shows_what_ended_the_attempt.Goals as goal

pub returns : goal.returns
returns c = λ why nest general first at few fits. line_told why nest general at first few fits
