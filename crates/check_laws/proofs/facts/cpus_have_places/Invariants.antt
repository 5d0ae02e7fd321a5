use Rattle.std.proofs.Common.{ℕ, ◌<◌}
use Rattle.tx_report.specs.Machine.{setting_of, state_of}
use Rattle.check_laws.specs.Places.{HasPlace}
use Rattle.check_laws.proofs.facts.cpus_have_places.Given as goal

abbrev pub invariant-loop-cpu : goal.invariant-loop-cpu
invariant-loop-cpu l = (i : ℕ) → i < l.cpu → HasPlace (setting_of l.machine) (state_of l.machine) i
