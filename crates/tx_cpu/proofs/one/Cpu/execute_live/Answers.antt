-- What it leaves and tells is what the instruction does inside a transaction.
use Rattle.std.proofs.Common.{sym, ap, subst, ◌∙◌}
use Rattle.tx_progress.proofs.Moving.{executed_live}
use Rattle.tx_progress.specs.Doing.{Executed}
use Rattle.tx_cpu.specs.Parts.{Parts, beside}
use Rattle.tx_attempt.specs.Tracked.{IsSound}
use Rattle.tx_cpu.proofs.Preparing.{may-go}
use Rattle.tx_cpu.proofs.SmallCodes.{executed-room}
use Rattle.tx_cpu.proofs.one.Cpu.execute_live.Goals as goal

pub execute_told-requires-clause-goes : goal.execute_told-requires-clause-goes
execute_told-requires-clause-goes g c =
    may-go c.args.self.now.attempt c.args.self.now.image c.args.instr.now c.args.need.now
    (subst (λ (p : Parts). IsSound p.attempt) c.self.view_is c.is_sound.ensures.sound) c.requires.prepared

pub returns-clause-value : goal.returns-clause-value
returns-clause-value g c =
    c.execute_told.ensures.value
    ∙ sym (executed_live c.args.instr.now c.args.need.now
    (beside c.args.self.now (g.V.Bytes.bytes c.args.base.now)) c.requires.live)

pub returns-clause-code : goal.returns-clause-code
returns-clause-code g c =
    executed-room c.args.instr.now c.args.need.now
    (beside c.args.self.now (g.V.Bytes.bytes c.args.base.now)) c.execute_told.result
    (ap (λ (x : Executed). x.told) (returns-clause-value g c))
