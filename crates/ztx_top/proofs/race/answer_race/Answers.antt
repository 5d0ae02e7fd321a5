use Rattle.std.proofs.Common.{inl, inr}
use Rattle.std.proofs.lemmas.Result.{IfOk-weaker}
use Rattle.ztx_top.proofs.race.answer_race.Goals as goal

pub returns-in-Ok-clause-due : goal.returns-in-Ok-clause-due
returns-in-Ok-clause-due g c =
    IfOk-weaker c.race_machine.result _ _ (λ answer due. due c.args.input.now c.in-Ok.ensures.machine)
    c.race_machine.ensures.due

pub returns-in-Err-clause-due : goal.returns-in-Err-clause-due
returns-in-Err-clause-due g c =
    IfOk-weaker c.answer_refusal.result _ _ (λ answer is. inl is)
    (c.answer_refusal.ensures c.args.input.now c.in-Err.ensures.refused)

pub returns-in-Err-clause-statuses : goal.returns-in-Err-clause-statuses
returns-in-Err-clause-statuses g c =
    IfOk-weaker c.answer_refusal.result _ _ (λ answer is. inr (inl is.status_is))
    (c.answer_refusal.ensures c.args.input.now c.in-Err.ensures.refused)
