-- What steps have made is made again, by the other CPU and on the other storage.
use Rattle.std.proofs.Common.{◌≡◌, ℕ, true, false, sym, ap, subst, ◌∙◌}
use Rattle.std.specs.Prelude.{is_some}
use Rattle.std.specs.FinSet.{items}
use Rattle.z_regs.specs.Prefix.{is_prefix}
use Rattle.tx_progress.specs.Local.{Local}
use Rattle.tx_progress.specs.Progress.{is_live, resting}
use Rattle.tx_cpu.specs.Storages.{storage_of}
use Rattle.tx_cpu.specs.Parts.{Parts, local_of, goes_on_as}
use Rattle.tx_cpu.proofs.Ends.{cpu-rests}
use Rattle.tx_marks.specs.Places.{over}
use Rattle.tx_marks.specs.Own.{bytes_at}
use Rattle.tx_marks.specs.Traces.{is_stored}
use Rattle.tx_run.specs.Made.{Made}
use Rattle.tx_run.specs.contracts.steps.Steps.{the_view}
use Rattle.tx_run.proofs.Adding.{with_stores}
use Rattle.tx_run.proofs.Doublewords.{some-live}
use Rattle.tx_run.proofs.Taking.{alike-live, covered, stays, given-live, given-outside, goes-live-too, goes-outside-too}
use Rattle.tx_run.proofs.Taking.{goes-counted}
use Rattle.tx_run.proofs.Texts.{own-steps, steps-by}
use Rattle.tx_run.proofs.giving.give.Goals as goal

pub go_on_as-requires-clause-alike : goal.go_on_as-requires-clause-alike
go_on_as-requires-clause-alike g c =
    let text = items c.args.program.now.guard in
    let m = c.args.steps.now in
    alike-live text m (own-steps text c.args.program.now.storage m c.requires.made)
    (local_of c.args.into.now) c.requires.like
    ∙ sym (ap (λ (p : Parts). is_live (local_of p).attempt) c.reached-reached.ensures)

pub go_on_as-requires-clause-covered : goal.go_on_as-requires-clause-covered
go_on_as-requires-clause-covered g c = λ block h.
    let text = items c.args.program.now.guard in
    let m = c.args.steps.now in
    ap (λ (p : Parts). (local_of p).attempt.footprint.blocks block) c.reached-reached.ensures
    ∙ covered text m (own-steps text c.args.program.now.storage m c.requires.made)
    (local_of c.args.into.now) c.requires.like c.is_sound-2.ensures.rests c.is_sound-2.ensures.blocks block h

pub returns-then-is_some-clause-given : goal.returns-then-is_some-clause-given
returns-then-is_some-clause-given g c = λ text agree.
    let m = c.args.steps.now in
    let own = local_of c.args.into.now in
    let t = storage_of (g.V.Bytes.bytes c.args.base.now) in
    let is = ap the_view c.steps-inside.view_is ∙ c.steps.view_is in
    let area = subst (λ (p : Parts). is_prefix (local_of p).attempt.cpu.prefix ≡ true) c.start-start.ensures c.has_prefix.ensures in
    let steps = steps-by (items c.args.program.now.guard) c.args.program.now.storage text m area c.requires.made agree in
    let live : is_live (local_of m.reached).attempt ≡ true =
    sym (ap (λ (p : Parts). is_live (local_of p).attempt) c.reached-reached.ensures)
    ∙ sym (some-live _ _) ∙ sym (ap is_some c.live.ensures) ∙ sym c.is_some.ensures ∙ c.if-is_some.true in
    let began = sym (stays text m steps own c.requires.like) ∙ live in
    ap (λ (l : Local). record { local = l; storage = t })
    (c.add_stores.ensures ∙ ap (with_stores c.steps-inside.inside.0.1.1.1.0 (local_of c.reached-reached.result.now)) c.go_on_as.ensures
    ∙ ap (λ (p : Parts). with_stores c.steps-inside.inside.0.1.1.1.0 (local_of p) (goes_on_as (local_of p) own))
    c.reached-reached.ensures
    ∙ ap (λ (x : Made). with_stores x.traces (local_of m.reached) (goes_on_as (local_of m.reached) own)) is)
    ∙ given-live text m steps own t c.requires.like c.requires.alike live began

pub returns-else-is_some-clause-given : goal.returns-else-is_some-clause-given
returns-else-is_some-clause-given g c = λ text agree.
    let m = c.args.steps.now in
    let own = local_of c.args.into.now in
    let t = storage_of (g.V.Bytes.bytes c.args.base.now) in
    let s = storage_of (g.V.Bytes.bytes c.lay_stored.new.base) in
    let is = ap the_view c.steps-inside.view_is ∙ c.steps.view_is in
    let area = subst (λ (p : Parts). is_prefix (local_of p).attempt.cpu.prefix ≡ true) c.start-start.ensures c.has_prefix.ensures in
    let steps = steps-by (items c.args.program.now.guard) c.args.program.now.storage text m area c.requires.made agree in
    let rests : is_live (local_of m.reached).attempt ≡ false =
    sym (ap (λ (p : Parts). is_live (local_of p).attempt) c.reached-reached.ensures)
    ∙ sym (some-live _ _) ∙ sym (ap is_some c.live.ensures) ∙ sym c.is_some.ensures ∙ c.if-is_some.false in
    let began = sym (stays text m steps own c.requires.like) ∙ rests in
    let still = alike-live text m steps own c.requires.like ∙ rests in
    let none = subst (λ (p : Parts). is_live (local_of p).attempt ≡ false
    → (local_of p).attempt ≡ resting (local_of p).attempt.cpu) c.start-start.ensures c.is_sound.ensures.rests began in
    let laid = subst (λ (x : Made). (a : ℕ) → s a ≡ over (is_stored x.traces) (bytes_at x.own.now) t a) is
    c.lay_stored.ensures.value in
    ap (λ (l : Local). record { local = l; storage = s })
    (c.go_on_as.ensures ∙ ap (λ (p : Parts). goes_on_as (local_of p) own) c.reached-reached.ensures)
    ∙ given-outside text m steps own t c.requires.like c.requires.alike rests began none
    (c.is_sound-2.ensures.rests still) (cpu-rests m.start began) (cpu-rests c.args.into.now still) s laid

pub returns-then-is_some-clause-away : goal.returns-then-is_some-clause-away
returns-then-is_some-clause-away g c = λ text agree.
    let m = c.args.steps.now in
    let own = local_of c.args.into.now in
    let area = subst (λ (p : Parts). is_prefix (local_of p).attempt.cpu.prefix ≡ true) c.start-start.ensures c.has_prefix.ensures in
    let steps = steps-by (items c.args.program.now.guard) c.args.program.now.storage text m area c.requires.made agree in
    let live : is_live (local_of m.reached).attempt ≡ true =
    sym (ap (λ (p : Parts). is_live (local_of p).attempt) c.reached-reached.ensures)
    ∙ sym (some-live _ _) ∙ sym (ap is_some c.live.ensures) ∙ sym c.is_some.ensures ∙ c.if-is_some.true in
    goes-live-too text m steps own (storage_of (g.V.Bytes.bytes c.args.base.now)) c.requires.like c.requires.alike
    (sym (stays text m steps own c.requires.like) ∙ live)

pub returns-else-is_some-clause-away : goal.returns-else-is_some-clause-away
returns-else-is_some-clause-away g c = λ text agree.
    let m = c.args.steps.now in
    let own = local_of c.args.into.now in
    let area = subst (λ (p : Parts). is_prefix (local_of p).attempt.cpu.prefix ≡ true) c.start-start.ensures c.has_prefix.ensures in
    let steps = steps-by (items c.args.program.now.guard) c.args.program.now.storage text m area c.requires.made agree in
    let rests : is_live (local_of m.reached).attempt ≡ false =
    sym (ap (λ (p : Parts). is_live (local_of p).attempt) c.reached-reached.ensures)
    ∙ sym (some-live _ _) ∙ sym (ap is_some c.live.ensures) ∙ sym c.is_some.ensures ∙ c.if-is_some.false in
    let began = sym (stays text m steps own c.requires.like) ∙ rests in
    let still = alike-live text m steps own c.requires.like ∙ rests in
    let none = subst (λ (p : Parts). is_live (local_of p).attempt ≡ false
    → (local_of p).attempt ≡ resting (local_of p).attempt.cpu) c.start-start.ensures c.is_sound.ensures.rests began in
    goes-outside-too text m steps own (storage_of (g.V.Bytes.bytes c.args.base.now)) c.requires.like c.requires.alike
    began none (c.is_sound-2.ensures.rests still) (cpu-rests m.start began) (cpu-rests c.args.into.now still)

pub returns-then-is_some-clause-count : goal.returns-then-is_some-clause-count
returns-then-is_some-clause-count g c =
    ap (λ (l : Local). l.attempt.count) (c.add_stores.ensures ∙ ap (with_stores c.steps-inside.inside.0.1.1.1.0
    (local_of c.reached-reached.result.now)) c.go_on_as.ensures)
    ∙ goes-counted (local_of c.reached-reached.result.now) (local_of c.args.into.now)
    ∙ ap (λ (p : Parts). (local_of p).attempt.count) c.reached-reached.ensures

pub returns-else-is_some-clause-count : goal.returns-else-is_some-clause-count
returns-else-is_some-clause-count g c =
    ap (λ (l : Local). l.attempt.count) c.go_on_as.ensures
    ∙ goes-counted (local_of c.reached-reached.result.now) (local_of c.args.into.now)
    ∙ ap (λ (p : Parts). (local_of p).attempt.count) c.reached-reached.ensures
