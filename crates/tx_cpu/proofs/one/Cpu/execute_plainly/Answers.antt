-- What it leaves and tells is what the instruction does inside a transaction.
use Rattle.std.proofs.Common.{List, sym, ap, subst, ◌∙◌}
use Rattle.z_regs.specs.declared.ranges.Range.{Range}
use Rattle.tx_progress.proofs.Moving.{executed_live}
use Rattle.tx_progress.specs.Doing.{Executed, executed}
use Rattle.tx_attempt.specs.Tracked.{IsSound}
use Rattle.tx_cpu.specs.Going.{MayGo}
use Rattle.tx_cpu.specs.Parts.{Parts, local_of, beside}
use Rattle.tx_cpu.specs.Plans.{IsPrepared}
use Rattle.tx_cpu.proofs.Preparing.{may-go}
use Rattle.tx_cpu.proofs.SmallCodes.{executed-room}
use Rattle.tx_cpu.proofs.one.Cpu.execute_plainly.Goals as goal

pub execute_store-requires-clause-kind : goal.execute_store-requires-clause-kind
execute_store-requires-clause-kind g c =
    sym c.kind_in-kind.ensures ∙ c.stores_register.ensures c.if-stores_register.true

pub execute_store-requires-clause-goes : goal.execute_store-requires-clause-goes
execute_store-requires-clause-goes g c =
    may-go c.args.self.now.attempt c.args.self.now.image c.args.plain.now.ready.now.instr c.add_operand.new.need
    (subst (λ (p : Parts). IsSound p.attempt) c.self.view_is c.is_sound.ensures.sound)
    (subst (λ (rs : List Range). IsPrepared (local_of c.args.self.now).attempt c.args.plain.now.ready.now.instr rs)
    (sym c.add_operand.ensures) c.requires.prepared)

pub returns-then-stores_register-clause-value : goal.returns-then-stores_register-clause-value
returns-then-stores_register-clause-value g c =
    let i = c.args.plain.now.ready.now.instr in
    let old = g.V.Bytes.bytes c.args.base.now in
    c.execute_store.ensures old
    ∙ sym (executed_live i c.add_operand.new.need (beside c.args.self.now old) c.requires.live)
    ∙ ap (λ (need : List Range). executed i need (beside c.args.self.now old)) c.add_operand.ensures

pub returns-then-stores_register-clause-code : goal.returns-then-stores_register-clause-code
returns-then-stores_register-clause-code g c =
    executed-room c.args.plain.now.ready.now.instr _
    (beside c.args.self.now (g.V.Bytes.bytes c.args.base.now)) _
    (ap (λ (x : Executed). x.told) (returns-then-stores_register-clause-value g c))

pub execute_inside-requires-clause-goes : goal.execute_inside-requires-clause-goes
execute_inside-requires-clause-goes g c =
    may-go c.args.self.now.attempt c.args.self.now.image c.args.plain.now.ready.now.instr c.add_operand.new.need
    (subst (λ (p : Parts). IsSound p.attempt) c.self.view_is c.is_sound.ensures.sound)
    (subst (λ (rs : List Range). IsPrepared (local_of c.args.self.now).attempt c.args.plain.now.ready.now.instr rs)
    (sym c.add_operand.ensures) c.requires.prepared)

pub returns-clause-value : goal.returns-clause-value
returns-clause-value g c =
    let i = c.args.plain.now.ready.now.instr in
    let old = g.V.Bytes.bytes c.args.base.now in
    c.execute_inside.ensures.value
    ∙ sym (executed_live i c.add_operand.new.need (beside c.args.self.now old) c.requires.live)
    ∙ ap (λ (need : List Range). executed i need (beside c.args.self.now old)) c.add_operand.ensures

pub returns-clause-code : goal.returns-clause-code
returns-clause-code g c =
    executed-room c.args.plain.now.ready.now.instr _
    (beside c.args.self.now (g.V.Bytes.bytes c.args.base.now)) _
    (ap (λ (x : Executed). x.told) (returns-clause-value g c))
