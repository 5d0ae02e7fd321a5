use Rattle.std.proofs.Common.{◌≡◌, ◌++◌}
use Rattle.std.specs.String.{string_bytes}
use Rattle.tx_gen.specs.Programs.{for_first, cpu_line}
use Rattle.tx_gen.proofs.programs.add_cpu_lines.Given as goal

abbrev pub invariant-loop-cpu : goal.invariant-loop-cpu
invariant-loop-cpu l = string_bytes l.text ≡ string_bytes l.initial.text ++ for_first l.cpu-counter cpu_line
