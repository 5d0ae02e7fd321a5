use Rattle.std.proofs.Common.{refl}
use Rattle.report_form.proofs.TextLines.{ended_first, unended_first}
use Rattle.report_form.proofs.places.first_size.Goals as goal

pub returns-in_default-clause-cut : goal.returns-in_default-clause-cut
returns-in_default-clause-cut c = unended_first c.args.text.now c.requires c.in_default.ensures.none

pub returns-clause-cut : goal.returns-clause-cut
returns-clause-cut c =
    ended_first c.args.text.now c.in-Some.front.now c.in-Some.rest.now _ c.in-Some.ensures.some
    c.in-Some.ensures.first refl
