use Rattle.std.proofs.Common.{◌≡◌, drop}
use Rattle.std.specs.List.{list_any}
use Rattle.z_regs.specs.Cpu.{cpu_of}
use Rattle.z_setup.specs.Machine.{has_prefix}
use Rattle.z_setup.proofs.second.is_given.Given as goal

abbrev pub invariant-loop-cpu : goal.invariant-loop-cpu
invariant-loop-cpu l = list_any (λ c. has_prefix l.prefix (cpu_of c)) (drop l.cpu-index l.cpus) ≡ list_any
    (λ c. has_prefix l.prefix (cpu_of c)) l.cpus
