-- What is no transaction instruction.
use Rattle.std.proofs.Common.{sym, ap, ◌∙◌}
use Rattle.z_instr.specs.Table.{kind_at}
use Rattle.tx_attempt.specs.Performed.{transaction_in}
use Rattle.tx_attempt.proofs.Stored.{none-transaction}
use Rattle.tx_cpu.proofs.one.Cpu.execute_inside.Goals as goal

pub execute_sized-requires-clause-plain : goal.execute_sized-requires-clause-plain
execute_sized-requires-clause-plain g c =
    none-transaction (kind_at c.args.instr.now.op.number)
    (ap transaction_in (sym c.requires.kind) ∙ sym c.transaction_of.ensures ∙ c.in_default.is)
