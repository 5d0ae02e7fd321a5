use Rattle.line_table.proofs.Against.{holds_outside, holds_outside_for_one_more}
use Rattle.line_table.proofs.laws.holds_a_line_outside.Goals as goal

pub returns : goal.returns
returns c = record { of_fewer = holds_outside; for_one_more = holds_outside_for_one_more }
