-- What an instruction leaves on the bytes of its operands.
use Rattle.std.proofs.Common.{ap, sym, ◌∙◌, length, []}
use Rattle.z_regs.specs.Cpu.{cpu_of}
use Rattle.tx_attempt.specs.Performed.{transaction_in}
use Rattle.tx_attempt.proofs.LastingStores.{lasting-doubleword}
use Rattle.tx_attempt.proofs.Stored.{transaction-outcome, lasting-room}
use Rattle.tx_attempt.proofs.performing.perform.Goals as goal

pub execute_transaction-requires-clause-room : goal.execute_transaction-requires-clause-room
execute_transaction-requires-clause-room g c =
    lasting-room c.args.instr.now (cpu_of c.args.image.now) c.in-Some.transaction c.args.need.now _ c.requires.need
    (ap transaction_in (sym c.requires.kind) ∙ sym c.transaction_of.ensures ∙ c.in-Some.is) c.requires.room

pub returns-in-Some-clause-value : goal.returns-in-Some-clause-value
returns-in-Some-clause-value g c =
    transaction-outcome c.args.instr.now (cpu_of c.args.image.now) _ _ _ _ _ c.in-Some.transaction c.args.need.now _
    c.requires.need (ap transaction_in (sym c.requires.kind) ∙ sym c.transaction_of.ensures ∙ c.in-Some.is)
    (c.depth-depth.ensures.open ∙ ap length c.nest.ensures) c.execute_transaction.ensures.value

pub returns-in-Some-clause-lasting : goal.returns-in-Some-clause-lasting
returns-in-Some-clause-lasting g c is d =
    lasting-doubleword c.args.instr.now (cpu_of c.args.image.now) (cpu_of c.execute_transaction.new.image)
    (length c.args.attempt.now.nest) [] c.execute_transaction.new.stored c.args.need.now
    c.execute_transaction.result
    (transaction-outcome c.args.instr.now (cpu_of c.args.image.now) _ _ _ [] _ c.in-Some.transaction c.args.need.now _
    c.requires.need (ap transaction_in (sym c.requires.kind) ∙ sym c.transaction_of.ensures ∙ c.in-Some.is)
    (c.depth-depth.ensures.open ∙ ap length c.nest.ensures) c.execute_transaction.ensures.value) is d

pub returns-in-None-clause-lasting : goal.returns-in-None-clause-lasting
returns-in-None-clause-lasting g c is d =
    lasting-doubleword c.args.instr.now (cpu_of c.args.image.now) _ (length c.args.attempt.now.nest) _
    c.execute_seen.new.stored c.args.need.now c.execute_seen.result c.execute_seen.ensures.value is d
