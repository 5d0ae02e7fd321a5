-- At first there is no step; and the next one is known to go away.
use Rattle.std.proofs.Common.{rules, ap}
use Rattle.std.specs.FinSet.{items}
use Rattle.tx_run.specs.Made.{Made}
use Rattle.tx_run.proofs.Again.{again-away}
use Rattle.tx_run.proofs.steps.Steps.make_again.Goals as goal

pub loop-init : goal.loop-init
loop-init c = record {
  made = c.begin_again.ensures.made _ _ c.requires.again.given;
  start = c.begin_again.ensures.start;
  steps = c.begin_again.ensures.steps;
  all = ap (λ (m : Made). m.steps) c.self.view_is;
}

pub make_next-requires-clause-away : goal.make_next-requires-clause-away
make_next-requires-clause-away c =
    let v = c.loop.invariant in
    let all = v.all in
    let steps = v.steps in
    let test = c.loop-test.true in
    again-away (items c.args.program.now.guard) c.args.program.now.storage c.args.self.now c.loop.self c.requires.again
    v.start v.made (search rules)
