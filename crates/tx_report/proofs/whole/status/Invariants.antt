-- The CPUs so far are finished.
use Rattle.std.proofs.Common.{◌≡◌, ℕ, ◌<◌, true}
use Rattle.tx_meaning.specs.Idle.{is_finished}
use Rattle.tx_machine.specs.Machine.{setting_of, state_of}
use Rattle.tx_report.proofs.whole.status.Given as goal

abbrev pub invariant-loop-cpu : goal.invariant-loop-cpu
invariant-loop-cpu l =
    (k : ℕ) → k < l.cpu → is_finished (setting_of l.machine) (state_of l.machine) k ≡ true
