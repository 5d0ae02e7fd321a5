-- So many fewer events are behind.
use Rattle.std.proofs.Common.{◌≡◌}
use Rattle.tx_step.specs.Traces.{back_from}
use Rattle.tx_step.proofs.trace.Trace.back.Given as goal

abbrev pub invariant-loop-done : goal.invariant-loop-done
invariant-loop-done l = l.self ≡ back_from l._done l.fn.self
