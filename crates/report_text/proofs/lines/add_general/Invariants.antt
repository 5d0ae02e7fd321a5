use Rattle.std.proofs.Common.{◌≡◌, ◌++◌, take}
use Rattle.report_text.specs.Processor.{general_text}
use Rattle.report_text.proofs.lines.add_general.Given as goal

abbrev pub invariant-loop-value : goal.invariant-loop-value
invariant-loop-value l = l.text.items ≡ l.initial.text.items ++ general_text (take l.value-index l.values)
