use Rattle.std.proofs.Common.{◌≡◌, ◌++◌}
use Rattle.report_form.specs.Sheet.{cpus_parts}
use Rattle.report_form.proofs.sheet.add_cpus.Given as goal

abbrev pub invariant-loop-cpu : goal.invariant-loop-cpu
invariant-loop-cpu l = l.parts.items ≡ l.initial.parts.items ++ cpus_parts l._cpu
