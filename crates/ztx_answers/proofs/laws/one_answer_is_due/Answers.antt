use Rattle.ztx_answers.proofs.Answered.{summed, one_summary}
use Rattle.ztx_answers.proofs.Due.{some_due, one_due}
use Rattle.ztx_answers.proofs.laws.one_answer_is_due.Goals as goal

pub returns-clause-some : goal.returns-clause-some
returns-clause-some c = some_due

pub returns-clause-one : goal.returns-clause-one
returns-clause-one c = one_due c.one_answer_is_due.ensures.once

pub returns-clause-summed : goal.returns-clause-summed
returns-clause-summed c = summed

pub returns-clause-one_summary : goal.returns-clause-one_summary
returns-clause-one_summary c = one_summary
