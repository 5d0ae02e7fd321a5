use Rattle.std.proofs.Common.{ℕ, ◌<◌}
use Rattle.tx_report.specs.Machine.{setting_of, state_of}
use Rattle.tx_meaning.specs.State.{flat_of}
use Rattle.check_laws.proofs.facts.storage_holds_bytes.Given as goal

abbrev pub invariant-loop-address : goal.invariant-loop-address
invariant-loop-address l =
    (a : ℕ) → a < l.address → (flat_of (setting_of l.machine) (state_of l.machine)).storage a < 256
