use Rattle.listing_answers.specs.Due.{IsDisassembly}
use Rattle.listing_answers.proofs.Given.{listed_ok, refused_or}
use Rattle.listing_answers.proofs.listed.list.Goals as goal

pub returns-in-Ok-clause-due : goal.returns-in-Ok-clause-due
returns-in-Ok-clause-due c =
    listed_ok c.args.input.now c.in-Ok.image c.disassemble.result c.in-Ok.ensures.image
    c.disassemble.ensures.status c.disassemble.ensures.text

pub returns-in-Err-clause-due : goal.returns-in-Err-clause-due
returns-in-Err-clause-due c =
    refused_or c.args.input.now c.in-Err.fault c.in-Err.ensures.fault IsDisassembly c.refuse.result
    c.refuse.ensures.refusal
