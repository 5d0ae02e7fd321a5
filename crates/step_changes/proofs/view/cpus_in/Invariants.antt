-- So many CPUs are seen.
use Rattle.std.proofs.Common.{◌≡◌, map}
use Rattle.std.specs.List.{range_with_len}
use Rattle.step_changes.proofs.view.cpus_in.Given as goal

abbrev pub invariant-loop-cpu : goal.invariant-loop-cpu
invariant-loop-cpu g l =
    l.cpus.items ≡ map ((g.S.Shows.shown l.machine).cpu) (range_with_len 0 l.cpu)
