use Rattle.tx_progress.proofs.Moving.{going_leaves, commit_leaves}
use Rattle.tx_progress.proofs.Endings.{ended_leaves, run_tells}
use Rattle.tx_progress.proofs.laws.what_an_instruction_tells_is_so.Goals as goal

pub returns-clause-stepped : goal.returns-clause-stepped
returns-clause-stepped c = λ text storage locals i instr ranges is live h told. going_leaves text storage
    locals i instr ranges is live h told

pub returns-clause-committed : goal.returns-clause-committed
returns-clause-committed c = λ text storage locals i n instr ranges is live h told. commit_leaves text
    storage locals i n instr ranges is live h told

pub returns-clause-ended : goal.returns-clause-ended
returns-clause-ended c = λ text storage locals i instr ranges why is live h told. ended_leaves text storage
    locals i instr ranges why is live h told

pub returns-clause-tells : goal.returns-clause-tells
returns-clause-tells c = λ text storage locals i instr ranges is live h.
    run_tells text storage locals i instr ranges is live h
