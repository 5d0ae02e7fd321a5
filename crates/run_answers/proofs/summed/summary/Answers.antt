use Rattle.run_answers.proofs.Ran.{summary_due, is_status}
use Rattle.run_answers.proofs.summed.summary.Goals as goal

pub returns-in-Ok-clause-due : goal.returns-in-Ok-clause-due
returns-in-Ok-clause-due c =
    summary_due c.args.number c.in_ok-image.image c.in_ok-machine.machine c.run_round.new.machine
    c.status-status.result c.in-Ok.text.items c.in_ok-machine.ensures c.run_round.ensures.run c.status-status.ensures
    c.in-Ok.ensures c.in_ok-image.ensures

pub returns-in-Ok-clause-statuses : goal.returns-in-Ok-clause-statuses
returns-in-Ok-clause-statuses c = is_status c.status-status.result _ _ c.status-status.ensures
