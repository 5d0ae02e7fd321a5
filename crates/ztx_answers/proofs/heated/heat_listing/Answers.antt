use Rattle.listing_answers.proofs.Given.{refused_or}
use Rattle.ztx_answers.specs.Heats.{IsHeat}
use Rattle.ztx_answers.proofs.heated.heat_listing.Goals as goal

pub returns-in-Err-clause-due : goal.returns-in-Err-clause-due
returns-in-Err-clause-due c =
    refused_or c.args.input.now c.in-Err.fault c.in-Err.ensures.fault
    (IsHeat c.args.turns c.args.tick c.args.seed) c.refuse.result c.refuse.ensures.refusal
