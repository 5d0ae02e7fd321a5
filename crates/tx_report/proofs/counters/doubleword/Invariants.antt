-- So many bytes are read.
use Rattle.std.proofs.Common.{◌≡◌, ℕ, ◌+◌, ◌<◌, length, get_or}
use Rattle.tx_meaning.specs.State.{flat_of}
use Rattle.tx_machine.specs.Machine.{setting_of, state_of}
use Rattle.tx_report.proofs.counters.doubleword.Given as goal

abbrev pub invariant-loop-i : goal.invariant-loop-i
invariant-loop-i l = record {
  size : length l.bytes ≡ 8;
  read : (k : ℕ) → k < l.i
      → get_or l.bytes k 0 ≡ (flat_of (setting_of l.machine) (state_of l.machine)).storage (l.address + k);
}
