-- So many CPUs are told.
use Rattle.std.proofs.Common.{◌≡◌, map}
use Rattle.std.specs.List.{range_with_len}
use Rattle.report_text.specs.Shown.{shown_cpu}
use Rattle.tx_machine.specs.Machine.{setting_of, state_of}
use Rattle.tx_report.specs.Shown.{cpu_shown}
use Rattle.tx_report.proofs.processors.processors.Given as goal

abbrev pub invariant-loop-cpu : goal.invariant-loop-cpu
invariant-loop-cpu l =
    map shown_cpu l.cpus.items
    ≡ map (cpu_shown (setting_of l.machine) (state_of l.machine)) (range_with_len 0 l.cpu)
