-- What STG leaves and tells inside a transaction.
use Rattle.std.proofs.Common.{◌≡◌, true, false, refl, sym, ap, subst, ◌∙◌, arith, take}
use Rattle.std.specs.Prelude.{nat_lt}
use Rattle.z_regs.specs.Cpu.{cpu_of}
use Rattle.z_instr.specs.Table.{kind_at}
use Rattle.tx_progress.specs.Trial.{outcome_by}
use Rattle.tx_attempt.specs.declared.performing.Ended.{Ended}
use Rattle.tx_attempt.specs.Performed.{StoresFirst, first_size, is_transaction, outcome_from}
use Rattle.tx_attempt.specs.Storages.{storage_of}
use Rattle.tx_attempt.specs.Tracked.{progress}
use Rattle.tx_attempt.proofs.Registers.{register-apart, register-long}
use Rattle.tx_attempt.proofs.Stored.{operands-first}
use Rattle.tx_cpu.specs.Going.{MayGo}
use Rattle.tx_cpu.specs.Parts.{Parts}
use Rattle.tx_cpu.specs.contracts.one.Cpu.{the_view}
use Rattle.tx_cpu.proofs.Inside.{stepped-is, may-step}
use Rattle.tx_cpu.proofs.one.Cpu.execute_store.Goals as goal

pub advance_plainly-requires-clause-size : goal.advance_plainly-requires-clause-size
advance_plainly-requires-clause-size c =
    let long = register-long c.args.instr.now c.args.self.now.image c.args.need.now c.requires.goes.operands_are
    c.requires.kind in
    omega (arith, long, c.keep_register.ensures.size)

pub advance_plainly-requires-clause-goes_on : goal.advance_plainly-requires-clause-goes_on
advance_plainly-requires-clause-goes_on c =
    may-step (the_view c.self.inside) c.args.instr.now c.args.need.now
    (ap (λ (q : Parts). nat_lt 0 q.attempt.count) c.self.view_is ∙ c.requires.live)
    c.is_sound.ensures.opens (ap is_transaction c.requires.kind)
    (subst (λ (q : Parts). MayGo q.attempt q.image c.args.instr.now c.args.need.now) (sym c.self.view_is) c.requires.goes)

pub returns : goal.returns
returns c bytes =
    let p = the_view c.self.inside in
    let i = c.args.instr.now in
    let need = c.args.need.now in
    let goes : MayGo p.attempt p.image i need =
    subst (λ (q : Parts). MayGo q.attempt q.image i need) (sym c.self.view_is) c.requires.goes in
    let live : nat_lt 0 p.attempt.count ≡ true =
    ap (λ (q : Parts). nat_lt 0 q.attempt.count) c.self.view_is ∙ c.requires.live in
    let plain : is_transaction (kind_at i.op.number) ≡ false = ap is_transaction c.requires.kind in
    let first : StoresFirst need = subst StoresFirst (sym goes.operands_are) (operands-first i p.image) in
    let o = outcome_by (storage_of bytes) i need (progress p.attempt p.image) in
    let image = cpu_of c.keep_register.new.image in
    let stored = c.keep_register.new.stored in
    rw (← c.self.view_is)
    (stepped-is p i need o image stored c.advance_plainly.new.self bytes live
    c.advance_plainly.ensures.live (c.is_sound-2.ensures.opens c.advance_plainly.ensures.live) first
    (ap (λ (e : Ended). outcome_from e image (take (first_size need) stored)) (sym c.keep_register.ensures.completed)
    ∙ register-apart i p.image image _ _ stored need _ goes.operands_are c.requires.kind
    (c.keep_register.ensures.done _ _))
    (λ x. c.advance_plainly.ensures.value i p.image x plain refl))
