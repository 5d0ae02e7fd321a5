use Rattle.tx_progress.proofs.Parts.{followed_fate, followed_outcome}
use Rattle.tx_progress.proofs.Quiet.{ends_live, stops_quiet}
use Rattle.tx_progress.proofs.laws.what_is_followed_has_the_fate_of_its_run.Goals as goal

pub returns-clause-fate : goal.returns-clause-fate
returns-clause-fate c = λ f i local is. followed_fate f i local is

pub returns-clause-outcome : goal.returns-clause-outcome
returns-clause-outcome c = λ f i local instr ranges is. followed_outcome f i local instr ranges is

pub returns-clause-ends : goal.returns-clause-ends
returns-clause-ends c = λ f i local why is h. ends_live f i local why is h

pub returns-clause-stops : goal.returns-clause-stops
returns-clause-stops c = λ f i local e is h. stops_quiet f i local e is h
