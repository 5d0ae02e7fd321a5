-- The outcomes of turns that are idle. An event with any other outcome is recorded.
use Rattle.std.specs.Prelude.{Bool, true, false}
use Rattle.tx_meaning.specs.declared.outcome.Outcome.{Outcome}
use Rattle.tx_meaning.specs.declared.outcome.Outcome.TheVariants as outcome

abbrev pub is_idle_outcome : Outcome → Bool
is_idle_outcome outcome.Halted = true
is_idle_outcome outcome.Spent = true
is_idle_outcome outcome.Queued = true
is_idle_outcome outcome.Stopped = true
is_idle_outcome outcome.Executed = false
is_idle_outcome (outcome.Rejected holder line) = false
is_idle_outcome (outcome.Aborted code) = false
is_idle_outcome (outcome.Interrupted code) = false
is_idle_outcome outcome.External = false
is_idle_outcome outcome.Delayed = false
