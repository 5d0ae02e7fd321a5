use Rattle.std.proofs.Common.{refl}
use Rattle.z_regs.specs.Cpu.{cpu_of}
use Rattle.tx_private.proofs.Resting.{rests}
use Rattle.tx_private.proofs.running.restart.Goals as goal

pub returns-clause-rests : goal.returns-clause-rests
returns-clause-rests c = λ bytes size turned.
    rests bytes (cpu_of c.args.image.now) _ size refl turned.seen turned.lasting c.close_all.ensures c.clear.ensures refl
    refl refl

pub returns-clause-turned : goal.returns-clause-turned
returns-clause-turned c = λ prefix bytes turned. record {
  turned = turned.turned;
  seen = turned.seen;
  lasting = turned.lasting;
}
