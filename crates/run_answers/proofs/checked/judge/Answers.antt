use Rattle.run_answers.proofs.Checks.{accepted, refused}
use Rattle.run_answers.proofs.checked.judge.Goals as goal

pub returns-in-Ok-clause-verdict : goal.returns-in-Ok-clause-verdict
returns-in-Ok-clause-verdict c =
    accepted c.args.image.now c.args.report.now c.accept.result c.in-Ok.entries c.in-Ok.ensures.sound
    c.in-Ok.ensures.accepted c.accept.ensures.status c.accept.ensures.text

pub returns-in-Err-clause-verdict : goal.returns-in-Err-clause-verdict
returns-in-Err-clause-verdict c =
    refused c.args.image.now c.args.report.now c.refuse_report.result c.in-Err.fault c.in-Err.ensures.fault
    c.refuse_report.ensures.says
