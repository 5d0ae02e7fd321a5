use Rattle.std.proofs.Common.{◌≡◌, ◌++◌, take, map}
use Rattle.report_text.specs.Shown.{shown_cpu}
use Rattle.report_text.specs.Processor.{cpus_text}
use Rattle.report_text.proofs.whole.add_cpus.Given as goal

abbrev pub invariant-loop-number : goal.invariant-loop-number
invariant-loop-number l =
    l.text.items ≡ l.initial.text.items ++ cpus_text (map shown_cpu (take l.number l.cpus))
