use Rattle.run_answers.proofs.Ran.{report_due, is_status}
use Rattle.run_answers.proofs.reported.report_run.Goals as goal

pub returns-in-Ok-clause-due : goal.returns-in-Ok-clause-due
returns-in-Ok-clause-due c = λ input stands.
    report_due c.args.image c.args.turns c.args.tick c.args.seed c.in_ok-machine.machine
    c.run_planned.new.machine input c.status-status.result c.in-Ok.text.items c.requires c.in_ok-machine.ensures
    c.run_planned.ensures c.status-status.ensures c.in-Ok.ensures stands

pub returns-in-Ok-clause-statuses : goal.returns-in-Ok-clause-statuses
returns-in-Ok-clause-statuses c = is_status c.status-status.result _ _ c.status-status.ensures
