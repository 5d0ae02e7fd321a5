use Rattle.tx_replay.proofs.OneAnswer.{one_history, one_misfit, never_both}
use Rattle.tx_replay.proofs.laws.lines_have_a_history_or_one_misfit.Goals as goal

pub returns-clause-history : goal.returns-clause-history
returns-clause-history c = one_history

pub returns-clause-misfit : goal.returns-clause-misfit
returns-clause-misfit c = one_misfit

pub returns-clause-either : goal.returns-clause-either
returns-clause-either c = never_both
