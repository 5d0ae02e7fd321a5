-- The CPUs so far are finished.
use Rattle.std.proofs.Common.{◌≡◌, true, take, length}
use Rattle.std.specs.List.{list_all, range_with_len}
use Rattle.tx_meaning.specs.Idle.{is_finished}
use Rattle.tx_schedule.specs.Machine.{setting_of, state_of}
use Rattle.tx_heat.proofs.measuring.are_finished.Given as goal

abbrev pub invariant-loop-cpu : goal.invariant-loop-cpu
invariant-loop-cpu l =
    list_all (is_finished (setting_of l.machine) (state_of l.machine))
    (take l.cpu (range_with_len 0 (length l.machine.image.cpus))) ≡ true
