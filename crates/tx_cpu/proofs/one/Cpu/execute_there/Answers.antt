-- What it leaves and tells is what the instruction does.
use Rattle.std.proofs.Common.{◌≡◌, true, false, List, [], ℕ, Option, refl, sym, ap, subst, ◌∙◌}
use Rattle.std.specs.Prelude.{nat_lt, All}
use Rattle.z_regs.specs.Absolute.{IsAccessible}
use Rattle.z_regs.specs.Cpu.{cpu_of}
use Rattle.z_regs.specs.declared.ranges.Range.{Range}
use Rattle.z_instr.specs.declared.instr.Instr.{Instr}
use Rattle.tx_progress.specs.Doing.{Executed, executed}
use Rattle.tx_progress.specs.Progress.{Progress}
use Rattle.tx_progress.specs.Trial.{outcome_by}
use Rattle.tx_progress.proofs.Moving.{executed_is, executed_live}
use Rattle.tx_progress.proofs.Parts.{not_live}
use Rattle.tx_program.specs.Shapes.{touched_by}
use Rattle.tx_attempt.specs.Advancing.{MayStep}
use Rattle.tx_attempt.specs.Performed.{IsKeptApart, IsLeftOutside, first_size}
use Rattle.tx_attempt.specs.Storages.{storage_of}
use Rattle.tx_attempt.specs.Tracked.{IsSound, progress}
use Rattle.tx_attempt.proofs.Stepping.{begins-none}
use Rattle.tx_cpu.specs.Going.{MayGo, IsSeenThere}
use Rattle.tx_cpu.specs.Parts.{Parts, local_of, beside}
use Rattle.tx_cpu.specs.Plans.{IsPrepared}
use Rattle.tx_cpu.specs.contracts.one.Cpu.{the_view}
use Rattle.tx_cpu.proofs.Inside.{may-step}
use Rattle.tx_cpu.proofs.Preparing.{may-go}
use Rattle.tx_cpu.proofs.SmallCodes.{executed-room}
use Rattle.tx_cpu.proofs.There.{asks-nothing}
use Rattle.tx_cpu.proofs.one.Cpu.execute_there.Goals as goal

-- it goes, with its operand as it is made
goes-by : (p now : Parts) (i : Instr) (made need : List Range) → p ≡ now → made ≡ need → IsSound p.attempt
    → IsPrepared (local_of now).attempt i need → MayGo p.attempt p.image i made
goes-by p now i made need view e sound prepared =
    may-go p.attempt p.image i made sound
    (subst (λ (rs : List Range). IsPrepared (local_of p).attempt i rs) (sym e)
    (subst (λ (q : Parts). IsPrepared (local_of q).attempt i need) (sym view) prepared))

pub perform_there-ended-requires-clause-plain : goal.perform_there-ended-requires-clause-plain
perform_there-ended-requires-clause-plain g c = c.requires.there.plain

pub perform_there-ended-requires-clause-none : goal.perform_there-ended-requires-clause-none
perform_there-ended-requires-clause-none g c =
    ap (λ (q : Parts). q.image.prefix) c.self.view_is ∙ c.requires.there.bare

pub perform_there-ended-requires-clause-need : goal.perform_there-ended-requires-clause-need
perform_there-ended-requires-clause-need g c =
    (goes-by (the_view c.self.inside) c.args.self.now c.args.plain.now.ready.now.instr _ _ c.self.view_is
    c.operands_at-need.ensures c.is_sound.ensures.sound c.requires.prepared).operands_are

pub perform_there-ended-requires-clause-accessible : goal.perform_there-ended-requires-clause-accessible
perform_there-ended-requires-clause-accessible g c =
    (goes-by (the_view c.self.inside) c.args.self.now c.args.plain.now.ready.now.instr _ _ c.self.view_is
    c.operands_at-need.ensures c.is_sound.ensures.sound c.requires.prepared).accessible

pub leave_inside-requires-clause-plain : goal.leave_inside-requires-clause-plain
leave_inside-requires-clause-plain g c = c.requires.there.plain

pub leave_inside-requires-clause-fetches : goal.leave_inside-requires-clause-fetches
leave_inside-requires-clause-fetches g c =
    let live : nat_lt 0 c.args.self.now.attempt.count ≡ true =
    sym (ap (λ (p : Parts). nat_lt 0 p.attempt.count) c.self.view_is) ∙ sym c.is_live.ensures ∙ c.if-is_live.true in
    (c.requires.there.there live).fetches

pub leave_inside-requires-clause-accessible : goal.leave_inside-requires-clause-accessible
leave_inside-requires-clause-accessible g c =
    let shape = c.args.plain.now.ready.now.shape in
    let need = touched_by shape.touch c.args.plain.now.first shape.size in
    let goes = goes-by (the_view c.self.inside) c.args.self.now c.args.plain.now.ready.now.instr need need c.self.view_is
    refl c.is_sound.ensures.sound c.requires.prepared in
    subst (λ (prefix : Option ℕ). All (IsAccessible prefix) need)
    (ap (λ (q : Parts). q.image.prefix) c.self.view_is ∙ c.requires.there.bare) goes.accessible

pub leave_inside-requires-clause-goes_on : goal.leave_inside-requires-clause-goes_on
leave_inside-requires-clause-goes_on g c =
    let p = the_view c.self.inside in
    let i = c.args.plain.now.ready.now.instr in
    let shape = c.args.plain.now.ready.now.shape in
    let need = touched_by shape.touch c.args.plain.now.first shape.size in
    let goes = goes-by p c.args.self.now i need need c.self.view_is refl c.is_sound.ensures.sound c.requires.prepared in
    let live : nat_lt 0 p.attempt.count ≡ true = sym c.is_live.ensures ∙ c.if-is_live.true in
    subst (λ (prefix : Option ℕ). MayStep p.attempt prefix need)
    (ap (λ (q : Parts). q.image.prefix) c.self.view_is ∙ c.requires.there.bare)
    (may-step p i need live c.is_sound.ensures.opens c.requires.there.plain goes)

pub returns-then-is_live-clause-value : goal.returns-then-is_live-clause-value
returns-then-is_live-clause-value g c =
    let p = the_view c.self.inside in
    let i = c.args.plain.now.ready.now.instr in
    let shape = c.args.plain.now.ready.now.shape in
    let made = c.operands_at-need.result in
    let old : List ℕ = g.V.Bytes.bytes c.args.base.now in
    let live : nat_lt 0 p.attempt.count ≡ true = sym c.is_live.ensures ∙ c.if-is_live.true in
    let there : IsSeenThere (progress p.attempt p.image) made =
    subst (IsSeenThere (progress p.attempt p.image)) (sym c.operands_at-need.ensures)
    (subst (λ (q : Parts). IsSeenThere (local_of q).attempt
    (touched_by shape.touch c.args.plain.now.first shape.size)) (sym c.self.view_is)
    (c.requires.there.there (sym (ap (λ (q : Parts). nat_lt 0 q.attempt.count) c.self.view_is) ∙ live))) in
    let need = touched_by shape.touch c.args.plain.now.first shape.size in
    rw (← c.self.view_is, c.perform_there-ended.ensures.same there.fetches)
    (c.leave_inside.ensures p.image (outcome_by (storage_of old) i need (progress p.attempt p.image)) _
    (ap (λ (q : Parts). q.image.prefix) c.self.view_is ∙ c.requires.there.bare)
    (subst (λ (rs : List Range). IsKeptApart (outcome_by (storage_of old) i rs (progress p.attempt p.image))
    (first_size rs) p.image (cpu_of c.perform_there-ended.new.image) [] c.perform_there-ended.result)
    c.operands_at-need.ensures (c.perform_there-ended.ensures.inside p.attempt there))
    ∙ sym (executed_live i need (beside p old) live))

pub returns-then-is_live-clause-code : goal.returns-then-is_live-clause-code
returns-then-is_live-clause-code g c =
    executed-room c.args.plain.now.ready.now.instr _
    (beside c.args.self.now (g.V.Bytes.bytes c.args.base.now)) _
    (ap (λ (x : Executed). x.told) (returns-then-is_live-clause-value g c))

pub returns-clause-value : goal.returns-clause-value
returns-clause-value g c =
    let p = the_view c.self.inside in
    let i = c.args.plain.now.ready.now.instr in
    let made = c.operands_at-need.result in
    let old : List ℕ = g.V.Bytes.bytes c.args.base.now in
    let next : List ℕ = g.V.Bytes.bytes c.perform_there-ended.new.base in
    let cpu = cpu_of c.perform_there-ended.new.image in
    let quiet : nat_lt 0 p.attempt.count ≡ false = sym c.is_live.ensures ∙ c.if-is_live.false in
    let rests = c.is_sound.ensures.rests (not_live _ quiet) in
    let left : IsLeftOutside made p.image cpu old next c.perform_there-ended.result
    (outcome_by (storage_of old) i made (progress p.attempt p.image)) =
    subst (λ (q : Progress). IsLeftOutside made p.image cpu old next c.perform_there-ended.result
    (outcome_by (storage_of old) i made q)) (sym (rests p.image)) c.perform_there-ended.ensures.outside in
    rw (← c.self.view_is)
    (c.leave_simply.ensures p.image (outcome_by (storage_of old) i made (progress p.attempt p.image)) made old next
    left (sym (asks-nothing i p.image c.requires.there.plain))
    ∙ sym (executed_is i made (beside p old) false false quiet (begins-none i c.requires.there.plain))
    ∙ ap (λ (need : List Range). executed i need (beside p old)) c.operands_at-need.ensures)

pub returns-clause-code : goal.returns-clause-code
returns-clause-code g c =
    executed-room c.args.plain.now.ready.now.instr _
    (beside c.args.self.now (g.V.Bytes.bytes c.args.base.now)) _
    (ap (λ (x : Executed). x.told) (returns-clause-value g c))
