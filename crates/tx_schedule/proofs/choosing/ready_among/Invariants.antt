-- Those below the next one are there.
use Rattle.std.proofs.Common.{◌≡◌, ◌<◌, ◌≤◌, All, true, length}
use Rattle.std.specs.List.{filter, range_with_len}
use Rattle.arrayvec.specs.ArrayVec.{array_vec_len}
use Rattle.tx_meaning.specs.Idle.{is_ready}
use Rattle.tx_machine.specs.Machine.{setting_of, state_of}
use Rattle.tx_schedule.proofs.choosing.ready_among.Given as goal

abbrev pub invariant-loop-cpu : goal.invariant-loop-cpu
invariant-loop-cpu l = record {
  ready :
      l.ready.items
      ≡ filter (is_ready (setting_of l.machine) (state_of l.machine)) (range_with_len 0 l.cpu);
  few : array_vec_len l.ready ≤ l.cpu;
  known : All (λ cpu. cpu < length l.machine.image.cpus) l.ready.items;
  each : All (λ cpu. is_ready (setting_of l.machine) (state_of l.machine) cpu ≡ true) l.ready.items;
}
