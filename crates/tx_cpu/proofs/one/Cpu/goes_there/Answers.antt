-- What is no transaction instruction.
use Rattle.std.proofs.Common.{sym, ap, ◌∙◌}
use Rattle.std.specs.Prelude.{is_some}
use Rattle.z_instr.specs.declared.kind.Kind.{Kind}
use Rattle.z_instr.specs.Table.{kind_at}
use Rattle.tx_attempt.specs.Performed.{transaction_in}
use Rattle.tx_cpu.proofs.There.{plain-kind}
use Rattle.tx_cpu.proofs.one.Cpu.goes_there.Goals as goal

pub returns : goal.returns
returns c so = record {
  plain = plain-kind (kind_at c.args.plain.now.ready.now.instr.op.number)
      (ap (λ (k : Kind). is_some (transaction_in k)) (sym c.kind_in.ensures) ∙
      ap is_some (sym c.transaction_of.ensures) ∙ sym c.is_some.ensures ∙ c.if-is_some.false);
  bare = c.requires.bare;
  there = c.sees_there.ensures so;
}
