use Rattle.std.proofs.Common.{arith, length-append}
use Rattle.std.proofs.Common.{ap, length}
use Rattle.input_parts.specs.Views.{pieces_of}
use Rattle.listing_answers.proofs.Given.{refused_ok}
use Rattle.run_answers.proofs.Checks.{judged, no_listing}
use Rattle.run_answers.proofs.checked.check_report.Goals as goal

pub judge-requires : goal.judge-requires
judge-requires c =
    let parts = c.part-parts.result in
    let whole = ap length c.part-parts.ensures.whole in
    let size = length-append parts.listing.now parts.marked.now in
    let short = c.requires.short in
    omega (arith, whole, size, short)

pub returns-in-Ok-clause-due : goal.returns-in-Ok-clause-due
returns-in-Ok-clause-due c =
    let parts = c.part-parts.result in
    judged c.args.input.now (pieces_of parts) c.requires.short c.part-parts.ensures.parted c.judge.result
    c.in-Ok.image c.in-Ok.ensures.image c.judge.ensures.verdict

pub returns-in-Err-clause-due : goal.returns-in-Err-clause-due
returns-in-Err-clause-due c =
    let parts = c.part-parts.result in
    no_listing c.args.input.now (pieces_of parts) c.requires.short c.part-parts.ensures.parted c.refuse.result
    (refused_ok parts.listing.now c.in-Err.fault c.in-Err.ensures.fault c.refuse.result c.refuse.ensures.refusal)
