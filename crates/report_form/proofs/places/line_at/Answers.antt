use Rattle.std.proofs.Common.{arith}
use Rattle.report_form.proofs.TextLines.{none_left, line_here}
use Rattle.report_form.proofs.places.line_at.Goals as goal

pub returns-then-at-text-clause-none : goal.returns-then-at-text-clause-none
returns-then-at-text-clause-none c = none_left c.args.text.now c.args.at c.requires (omega arith)

pub returns-clause-some : goal.returns-clause-some
returns-clause-some c =
    (line_here c.args.text.now c.args.at c.first_size-size.result c.requires (omega arith)
    c.first_size-size.ensures.some c.first_size-size.ensures.within c.first_size-size.ensures.cut).0

pub returns-clause-behind : goal.returns-clause-behind
returns-clause-behind c =
    (line_here c.args.text.now c.args.at c.first_size-size.result c.requires (omega arith)
    c.first_size-size.ensures.some c.first_size-size.ensures.within c.first_size-size.ensures.cut).1
