use Rattle.std.proofs.Common.{arith}
use Rattle.report_form.proofs.WordLemmas.{number_tells}
use Rattle.report_form.proofs.words.is_number.Goals as goal

pub returns-in-Some : goal.returns-in-Some
returns-in-Some c =
    number_tells c.in-Some.number c.args.limit c.args.text.now (omega arith) c.in-Some.ensures.some
