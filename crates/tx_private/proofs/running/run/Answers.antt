use Rattle.std.proofs.Common.{◌≡◌, ◌∙◌, subst, arith}
use Rattle.std.specs.FinSet.{items}
use Rattle.z_regs.specs.Cpu.{cpu_of}
use Rattle.tx_private.specs.Shows.{IsRunOf}
use Rattle.tx_private.proofs.Resting.{first_run, next_run, some_run}
use Rattle.tx_private.proofs.running.run.Goals as goal

pub loop-k-init : goal.loop-k-init
loop-k-init c = record {
  run = first_run c.args.storage.now (items c.args.guard.now) (cpu_of c.args.image.now) c.rest.new.a
      c.rest.ensures.shown;
  turned = c.rest.ensures.turned;
}

pub advance-requires : goal.advance-requires
advance-requires c =
    some_run c.args.storage.now (items c.args.guard.now) (cpu_of c.args.image.now) c.loop-k._k c.loop-k.a
    c.loop-k.invariant.run

pub loop-k-preserved : goal.loop-k-preserved
loop-k-preserved c = record {
  run = next_run c.args.storage.now (items c.args.guard.now) (cpu_of c.args.image.now) c.loop-k._k c.loop-k.a
      c.advance.new.a c.loop-k.invariant.run c.advance.ensures.run;
  turned = c.advance.ensures.turned ∙ c.loop-k.invariant.turned;
}

pub returns-clause-run : goal.returns-clause-run
returns-clause-run c =
    let past : c.loop-k._k ≡ c.args.n = omega arith in
    subst (λ n. IsRunOf c.args.storage.now (items c.args.guard.now) (cpu_of c.args.image.now) n c.loop-k.a)
    past
    c.loop-k.invariant.run
