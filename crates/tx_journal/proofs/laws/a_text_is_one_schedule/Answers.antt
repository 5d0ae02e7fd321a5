use Rattle.tx_journal.proofs.OneSchedule.{same_schedule}
use Rattle.tx_journal.proofs.laws.a_text_is_one_schedule.Goals as goal

pub returns : goal.returns
returns c = same_schedule
