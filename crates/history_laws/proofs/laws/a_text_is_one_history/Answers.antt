use Rattle.history_laws.proofs.Histories.{one_history}
use Rattle.history_laws.proofs.laws.a_text_is_one_history.Goals as goal

pub returns : goal.returns
returns c = one_history
