use Rattle.tx_progress.proofs.Leaving.{stop_leaves}
use Rattle.tx_progress.proofs.Moving.{step_leaves, begin_leaves}
use Rattle.tx_progress.proofs.laws.a_step_leaves_what_its_entry_does.Goals as goal

pub returns-clause-goes : goal.returns-clause-goes
returns-clause-goes c = λ text storage locals i instr ranges is acts quiet plain h. step_leaves text storage
    locals i instr ranges is acts quiet plain h

pub returns-clause-stops : goal.returns-clause-stops
returns-clause-stops c = λ text storage locals i e is acts quiet h. stop_leaves text storage locals i e is
    acts quiet h

pub returns-clause-begins : goal.returns-clause-begins
returns-clause-begins c = λ text storage locals i instr ranges is acts quiet b h. begin_leaves text storage
    locals i instr ranges is acts quiet b h
