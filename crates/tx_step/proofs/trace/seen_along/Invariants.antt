-- The first so many events have happened, and each that was recorded has its step.
use Rattle.std.proofs.Common.{length}
use Rattle.tx_machine.specs.Machine.{setting_of, state_of}
use Rattle.tx_step.specs.Stored.{Covers}
use Rattle.tx_step.specs.Traces.{IsTraced}
use Rattle.tx_step.proofs.Followed.{Follows}
use Rattle.tx_step.proofs.trace.seen_along.Given as goal

abbrev pub invariant-loop-event : goal.invariant-loop-event
invariant-loop-event l = record {
  follows : Follows (setting_of l.fn.machine) l.events l.event-index l.machine;
  covers : Covers (setting_of l.machine) (state_of l.machine) l.stored;
  traced : IsTraced l.machine l.view l.steps.items (length l.steps.items);
}
