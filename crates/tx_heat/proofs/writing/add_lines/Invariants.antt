-- The lines of text of the lines of storage so far are added.
use Rattle.std.proofs.Common.{◌≡◌, ◌++◌, take}
use Rattle.tx_heat.specs.Text.{lines_text}
use Rattle.tx_heat.proofs.writing.add_lines.Given as goal

abbrev pub invariant-loop-line : goal.invariant-loop-line
invariant-loop-line l = l.text.items ≡ l.initial.text.items ++ lines_text (take l.line l.lines)
