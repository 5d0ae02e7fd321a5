use Rattle.std.proofs.Common.{ℕ, Bool, Option, Some, None, sym, ap, ◌∙◌}
use Rattle.std.specs.Prelude.{if◌then◌else◌}
use Rattle.tx_marks.specs.Marks.{first_missing}
use Rattle.tx_marks.proofs.marks.LineMarks.missing_one.Goals as goal

abbrev answer : ℕ → Bool → Option ℕ
answer line there = if there then None else Some line

pub returns-then-is_there : goal.returns-then-is_there
unfolding first_missing
returns-then-is_there c = sym (ap (answer c.args.need.line) (sym c.is_there.ensures ∙ c.if-is_there.true))

pub returns : goal.returns
unfolding first_missing
returns c = sym (ap (answer c.args.need.line) (sym c.is_there.ensures ∙ c.if-is_there.false))
