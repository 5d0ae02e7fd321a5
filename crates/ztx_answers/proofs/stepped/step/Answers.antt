use Rattle.input_parts.specs.Views.{pieces_of}
use Rattle.listing_answers.proofs.Given.{refused_ok}
use Rattle.ztx_answers.proofs.Steps.{step_answered, step_refused}
use Rattle.ztx_answers.proofs.stepped.step.Goals as goal

pub returns-in-Ok-clause-due : goal.returns-in-Ok-clause-due
returns-in-Ok-clause-due c =
    let parts = c.part-parts.result in
    step_answered c.args.turns c.args.tick c.args.seed c.args.input.now (pieces_of parts)
    c.requires.short c.part-parts.ensures.parted c.answer_commands.result c.in-Ok.image c.in-Ok.ensures.image
    c.answer_commands.ensures.due

pub returns-in-Err-clause-due : goal.returns-in-Err-clause-due
returns-in-Err-clause-due c =
    let parts = c.part-parts.result in
    step_refused c.args.turns c.args.tick c.args.seed c.args.input.now (pieces_of parts)
    c.requires.short c.part-parts.ensures.parted c.refuse.result
    (refused_ok parts.listing.now c.in-Err.fault c.in-Err.ensures.fault c.refuse.result c.refuse.ensures.refusal)
