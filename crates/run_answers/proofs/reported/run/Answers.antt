use Rattle.listing_answers.proofs.Given.{refused_or}
use Rattle.run_answers.specs.Reports.{IsReport}
use Rattle.run_answers.proofs.reported.run.Goals as goal

pub returns-in-Err-clause-due : goal.returns-in-Err-clause-due
returns-in-Err-clause-due c =
    refused_or c.args.input.now c.in-Err.fault c.in-Err.ensures.fault
    (IsReport c.args.turns c.args.tick c.args.seed) c.refuse.result c.refuse.ensures.refusal
