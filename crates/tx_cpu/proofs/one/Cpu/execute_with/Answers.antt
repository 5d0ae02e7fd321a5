-- What an instruction inside a transaction leaves and tells.
use Rattle.std.proofs.Common.{◌≡◌, true, refl, ap, sym, subst, ◌∙◌}
use Rattle.std.specs.Prelude.{nat_lt}
use Rattle.z_regs.specs.Cpu.{cpu_of}
use Rattle.tx_progress.specs.Trial.{outcome_by}
use Rattle.tx_cpu.specs.Going.{MayGo}
use Rattle.tx_attempt.specs.Performed.{StoresFirst}
use Rattle.tx_attempt.specs.Tracked.{progress}
use Rattle.tx_cpu.specs.Parts.{Parts}
use Rattle.tx_attempt.specs.Storages.{storage_of}
use Rattle.tx_cpu.specs.contracts.one.Cpu.{the_view}
use Rattle.tx_cpu.proofs.Inside.{stepped-is, may-step}
use Rattle.tx_attempt.proofs.Stored.{operands-first}
use Rattle.tx_cpu.proofs.one.Cpu.execute_with.Goals as goal

pub advance_plainly-requires-clause-goes_on : goal.advance_plainly-requires-clause-goes_on
advance_plainly-requires-clause-goes_on g c =
    let i = c.args.instr.now in
    may-step (the_view c.self.inside) i c.args.need.now
    (ap (λ (q : Parts). nat_lt 0 q.attempt.count) c.self.view_is ∙ c.requires.live)
    c.is_sound.ensures.opens c.requires.plain
    (subst (λ (q : Parts). MayGo q.attempt q.image i c.args.need.now) (sym c.self.view_is) c.requires.goes)

pub end_inside-requires-clause-goes_on : goal.end_inside-requires-clause-goes_on
end_inside-requires-clause-goes_on g c =
    may-step (the_view c.self.inside) c.args.instr.now c.args.need.now
    (ap (λ (q : Parts). nat_lt 0 q.attempt.count) c.self.view_is ∙ c.requires.live)
    c.is_sound.ensures.opens c.requires.plain
    (subst (λ (q : Parts). MayGo q.attempt q.image c.args.instr.now c.args.need.now) (sym c.self.view_is)
    c.requires.goes)

pub returns-in-Completed-clause-value : goal.returns-in-Completed-clause-value
returns-in-Completed-clause-value g c =
    let p = the_view c.self.inside in
    let i = c.args.instr.now in
    let need = c.args.need.now in
    let live : nat_lt 0 c.self.inside.attempt.count ≡ true =
    ap (λ (q : Parts). nat_lt 0 q.attempt.count) c.self.view_is ∙ c.requires.live in
    let first : StoresFirst need =
    subst StoresFirst (sym c.requires.goes.operands_are) (operands-first i c.args.self.now.image) in
    rw (← c.self.view_is, c.execute_seen-ended.ensures.same)
    (stepped-is p i need
    (outcome_by (storage_of (g.V.Bytes.bytes c.args.base.now)) i need (progress p.attempt p.image))
    (cpu_of c.execute_seen-ended.new.image) c.execute_seen-ended.new.stored c.advance_plainly.new.self _ live
    c.advance_plainly.ensures.live (c.is_sound-in-Completed.ensures.opens c.advance_plainly.ensures.live) first
    c.in-Completed.ensures.value (λ x. c.advance_plainly.ensures.value i p.image x c.requires.plain refl))

pub returns-in_default-clause-value : goal.returns-in_default-clause-value
returns-in_default-clause-value g c =
    let p = the_view c.self.inside in
    let i = c.args.instr.now in
    let need = c.args.need.now in
    rw (← c.self.view_is, c.execute_seen-ended.ensures.same)
    (c.end_inside.ensures p.image
    (outcome_by (storage_of (g.V.Bytes.bytes c.args.base.now)) i need (progress p.attempt p.image)) _ refl
    (record { value = c.execute_seen-ended.ensures.value; image = c.execute_seen-ended.ensures.image }))
