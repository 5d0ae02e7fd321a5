use Rattle.std.proofs.Common.{◌≡◌, ◌∙◌, false, true, ap, sym, refl, arith}
use Rattle.z_regs.specs.Cpu.{cpu_of}
use Rattle.tx_journal.proofs.Pictures.{same_cpus, alike_at}
use Rattle.tx_journal.proofs.image.are_same_cpus.Goals as goal

pub returns-then-not-is_same_cpu : goal.returns-then-not-is_same_cpu
returns-then-not-is_same_cpu c = (
  λ n. let off : false ≡ true = n in cc,
  λ e. c.if-not-is_same_cpu.ensures.1
      (ap cpu_of c.index-some-i.is
      ∙ alike_at c.args.some.now c.args.others.now c.loop-i.i c.index-some-i.result
      c.index-others-i.result (omega arith) (omega arith) e
      ∙ sym (ap cpu_of c.index-others-i.is)),
)

pub returns : goal.returns
returns c = (
  λ _. same_cpus c.args.some.now c.args.others.now c.if-some-others.false
      (λ k d within. c.loop-i.invariant k d (omega arith)),
  λ _. refl,
)
