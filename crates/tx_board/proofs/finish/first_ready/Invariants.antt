-- The CPUs that were passed over are not ready.
use Rattle.std.proofs.Common.{◌≡◌, ℕ, ◌<◌, ◌≤◌, false}
use Rattle.tx_schedule.specs.Machine.{setting_of, state_of}
use Rattle.tx_meaning.specs.Idle.{is_ready}
use Rattle.tx_board.proofs.finish.first_ready.Given as goal

abbrev pub invariant-loop-cpu : goal.invariant-loop-cpu
invariant-loop-cpu l =
    (i : ℕ) → l.from ≤ i → i < l.cpu → is_ready (setting_of l.machine) (state_of l.machine) i ≡ false
