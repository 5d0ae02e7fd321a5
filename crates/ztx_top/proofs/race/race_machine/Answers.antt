use Rattle.std.proofs.lemmas.Result.{IfOk-weaker}
use Rattle.ztx_answers.proofs.RaceReports.{has_raced}
use Rattle.ztx_top.proofs.race.race_machine.Goals as goal

pub returns-in-Ok-clause-due : goal.returns-in-Ok-clause-due
returns-in-Ok-clause-due g c =
    let raced = c.in-Ok.ensures in
    IfOk-weaker c.report_race.result _ _
    (λ answer due. λ input may. due c.args.turns c.args.tick input c.requires.limits
    (has_raced c.args.turns c.args.tick input _ _ may raced.same raced.turns raced.none))
    c.report_race.ensures.due
