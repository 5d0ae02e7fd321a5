-- So many of the steps are made again.
use Rattle.std.proofs.Common.{◌≡◌}
use Rattle.std.specs.FinSet.{items}
use Rattle.tx_run.specs.Made.{IsMade, StartsAlike}
use Rattle.tx_run.proofs.steps.Steps.make_again.Given as goal

abbrev pub invariant-loop : goal.invariant-loop
invariant-loop l =
    record {
      made : IsMade (items l.program.guard) l.program.storage l.self;
      start : StartsAlike l.fn.self l.self;
      steps : l.self.steps ≡ l.counter;
      all : l.count ≡ l.fn.self.steps;
    }
