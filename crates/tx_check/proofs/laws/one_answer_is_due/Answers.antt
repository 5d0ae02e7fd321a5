use Rattle.tx_check.proofs.OneAnswer.{one_answer}
use Rattle.tx_check.proofs.laws.one_answer_is_due.Goals as goal

pub returns : goal.returns
returns c =
    let laws = c.lines_have_a_history_or_one_misfit.ensures in
    record { once = λ image report. one_answer laws.history laws.misfit laws.either image report }
