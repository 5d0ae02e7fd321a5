-- What NTSTG leaves and tells inside a transaction.
use Rattle.std.proofs.Common.{◌≡◌, ◌<◌, ℕ, true, refl, sym, ap, subst, ◌∙◌, arith, length}
use Rattle.std.specs.Prelude.{◌&&◌, nat_lt, nat_eq}
use Rattle.std.proofs.lemmas.Bool.Decides.{nat_tests}
use Rattle.z_regs.specs.Cpu.{cpu_of}
use Rattle.z_instr.specs.declared.kind.Transaction.TheVariants as transaction
use Rattle.tx_progress.specs.Trial.{outcome_by}
use Rattle.tx_attempt.specs.Gathered.{IsDoubleword}
use Rattle.tx_attempt.specs.Performed.{StoresFirst, first_size}
use Rattle.tx_attempt.specs.Storages.{storage_of}
use Rattle.tx_attempt.specs.Tracked.{progress}
use Rattle.tx_attempt.proofs.Stored.{operands-first}
use Rattle.tx_cpu.specs.Going.{MayGo}
use Rattle.tx_cpu.specs.Parts.{Parts}
use Rattle.tx_cpu.specs.contracts.one.Cpu.{the_view}
use Rattle.tx_cpu.proofs.About.{size-known, ends-none, stores-lastingly, lasting-completes, completed-with}
use Rattle.tx_cpu.proofs.Inside.{stepped-is}
use Rattle.tx_cpu.proofs.one.Cpu.execute_lasting.Goals as goal

pub perform-requires-clause-room : goal.perform-requires-clause-room
perform-requires-clause-room g c =
    let size = size-known c.args.instr.now c.args.self.now.image transaction.StoreLasting c.args.need.now
    c.requires.goes.operands_are c.requires.kind in
    omega (arith, size)

pub advance_lasting-requires-clause-lasts : goal.advance_lasting-requires-clause-lasts
advance_lasting-requires-clause-lasts g c = stores-lastingly c.args.instr.now.op.number c.requires.kind

pub advance_lasting-requires-clause-doubleword : goal.advance_lasting-requires-clause-doubleword
advance_lasting-requires-clause-doubleword g c =
    let lasts = stores-lastingly c.args.instr.now.op.number c.requires.kind in
    subst (λ n. IsDoubleword c.args.need.now c.perform.new.stored n) (sym c.register-source.ensures)
    (c.perform.ensures.lasting lasts (c.requires.goes.lasting lasts))

pub advance_lasting-requires-clause-goes_on : goal.advance_lasting-requires-clause-goes_on
advance_lasting-requires-clause-goes_on g c =
    let p = the_view c.self.inside in
    let i = c.args.instr.now in
    let goes : MayGo p.attempt p.image i c.args.need.now =
    subst (λ (q : Parts). MayGo q.attempt q.image i c.args.need.now) (sym c.self.view_is) c.requires.goes in
    let live : nat_lt 0 p.attempt.count ≡ true =
    ap (λ (q : Parts). nat_lt 0 q.attempt.count) c.self.view_is ∙ c.requires.live in
    let some : 0 < p.attempt.count = grind (arith, nat_tests, live) in
    goes.advances (c.is_sound.ensures.opens some)
    (ap (λ b. b && nat_eq (length p.attempt.nest) 1) (ends-none i.op.number c.requires.kind))

pub returns-clause-value : goal.returns-clause-value
returns-clause-value g c =
    let p = the_view c.self.inside in
    let i = c.args.instr.now in
    let need = c.args.need.now in
    let s = storage_of (g.V.Bytes.bytes c.args.base.now) in
    let live : nat_lt 0 c.self.inside.attempt.count ≡ true =
    ap (λ (q : Parts). nat_lt 0 q.attempt.count) c.self.view_is ∙ c.requires.live in
    let first : StoresFirst need =
    subst StoresFirst (sym c.requires.goes.operands_are) (operands-first i c.args.self.now.image) in
    let done = lasting-completes s i need (progress p.attempt p.image) c.requires.kind in
    rw (← c.self.view_is, c.perform.ensures.same)
    (stepped-is p i need (outcome_by s i need (progress p.attempt p.image)) (cpu_of c.perform.new.image)
    c.perform.new.stored c.advance_lasting.new.self _ live c.advance_lasting.ensures.live
    (c.is_sound-2.ensures.opens c.advance_lasting.ensures.live) first
    (completed-with _ _ _ (first_size need) (outcome_by s i need (progress p.attempt p.image)) done
    c.perform.ensures.value)
    (λ x. c.advance_lasting.ensures.value p.image x refl))
