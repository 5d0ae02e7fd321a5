use Rattle.std.proofs.Common.{◌≡◌, ◌++◌}
use Rattle.tx_journal.specs.Schedule.{rows_text}
use Rattle.tx_journal.proofs.writing.add_rows.Given as goal

abbrev pub invariant-loop-row : goal.invariant-loop-row
invariant-loop-row l = l.text.items ≡ l.initial.text.items ++ rows_text l.events l.row
