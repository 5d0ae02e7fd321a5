use Rattle.report_form.specs.Rows.{Either}
use Rattle.report_form.specs.Spelling.{Spelled}
use Rattle.report_form.proofs.SpellingLemmas.{first_tells, second_tells}
use Rattle.report_form.proofs.rows.is_any.Goals as goal

pub returns-then-is_spelled : goal.returns-then-is_spelled
returns-then-is_spelled c =
    first_tells (Spelled c.args.one.now c.args.line.now)
    (Either c.args.other.now c.args.third.now c.args.line.now)
    c.is_spelled.result c.if-is_spelled.true c.is_spelled.ensures

pub returns : goal.returns
returns c =
    second_tells (Spelled c.args.one.now c.args.line.now)
    (Either c.args.other.now c.args.third.now c.args.line.now)
    c.is_spelled.result c.is_either.result c.if-is_spelled.false c.is_spelled.ensures c.is_either.ensures
