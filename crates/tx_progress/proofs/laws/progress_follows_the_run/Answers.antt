use Rattle.tx_progress.proofs.SeenStores.{progress_seen}
use Rattle.tx_progress.proofs.OneMore.{starts, progress_counts, completed, overflows}
use Rattle.tx_progress.proofs.Fates.{fate_is, outcome_is}
use Rattle.tx_progress.proofs.laws.progress_follows_the_run.Goals as goal

pub returns-clause-start : goal.returns-clause-start
returns-clause-start c = λ f i. starts f i

pub returns-clause-count : goal.returns-clause-count
returns-clause-count c = λ f i k exists. progress_counts f i k exists

pub returns-clause-copy : goal.returns-clause-copy
returns-clause-copy c = λ f i k. progress_seen f i k

pub returns-clause-fate : goal.returns-clause-fate
returns-clause-fate c = λ f i k opens. fate_is f i k opens

pub returns-clause-outcome : goal.returns-clause-outcome
returns-clause-outcome c = λ f i k instr ranges. outcome_is f i k instr ranges

pub returns-clause-completed : goal.returns-clause-completed
returns-clause-completed c = λ f i k instr ranges c bytes opens goes follows e.
    completed f i k instr ranges c bytes opens goes follows e

pub returns-clause-overflowed : goal.returns-clause-overflowed
returns-clause-overflowed c = λ f i k instr ranges c bytes opens goes follows e.
    overflows f i k instr ranges c bytes opens goes follows e
