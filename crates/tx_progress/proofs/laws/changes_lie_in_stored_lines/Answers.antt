use Rattle.tx_progress.proofs.Changing.{executed_touches}
use Rattle.tx_progress.proofs.Touching.{placed_in_lines, block_in_lines}
use Rattle.tx_progress.proofs.laws.changes_lie_in_stored_lines.Goals as goal

pub returns-clause-executed : goal.returns-clause-executed
returns-clause-executed c = λ text storage locals i instr ranges is ok h.
    executed_touches text storage locals i instr ranges is ok h

pub returns-clause-placed : goal.returns-clause-placed
returns-clause-placed c = λ prefix r bytes storage ok size small s.
    placed_in_lines prefix r bytes storage ok size small s

pub returns-clause-block : goal.returns-clause-block
returns-clause-block c = λ storage locals i b r ok e at size small s.
    block_in_lines storage locals i b r ok e at size small s
