-- So many more events are behind.
use Rattle.std.proofs.Common.{◌≡◌, ◌+◌}
use Rattle.tx_step.specs.Traces.{moved_to}
use Rattle.tx_step.proofs.trace.Trace.forward.Given as goal

abbrev pub invariant-loop-done : goal.invariant-loop-done
invariant-loop-done l = l.self ≡ moved_to (l.fn.self.position + l._done) l.fn.self
