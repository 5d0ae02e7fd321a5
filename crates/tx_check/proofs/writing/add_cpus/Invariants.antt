use Rattle.std.proofs.Common.{◌≡◌, ◌++◌, take, map}
use Rattle.report_text.specs.Processor.{cpus_text}
use Rattle.tx_check.specs.Seen.{shown_seen}
use Rattle.tx_check.proofs.writing.add_cpus.Given as goal

abbrev pub invariant-loop-number : goal.invariant-loop-number
invariant-loop-number l =
    l.text.items ≡ l.initial.text.items ++ cpus_text (map shown_seen (take l.number l.cpus))
