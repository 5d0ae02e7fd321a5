-- It has no step.
use Rattle.std.proofs.Common.{◌+◌, ◌<◌, ◌^◌, sym, ap, subst, ◌∙◌, arith}
use Rattle.std.specs.FinSet.{items}
use Rattle.std.specs.Arc.{arc_value}
use Rattle.tx_serial.specs.Apply.{is_running}
use Rattle.tx_progress.specs.Local.{Local}
use Rattle.tx_run.proofs.run.Run.load.Goals as goal

pub invariant_of-self : goal.invariant_of-self
invariant_of-self c = record {
  made = c.load.ensures.made (items (arc_value c.self.inside.program).guard) (arc_value c.self.inside.program).storage
      c.self.invariant.made.now;
  few = let none = c.load.ensures.steps in omega (arith, none);
  most = c.requires.most;
  counted = subst (λ (l : Local). l.attempt.count + c.args.allowance < 2 ^ 32) (sym c.load.ensures.start)
      c.requires.counted;
  runs = ap (λ (l : Local). is_running l.attempt.cpu.state) c.load.ensures.start ∙ c.requires.runs;
}
