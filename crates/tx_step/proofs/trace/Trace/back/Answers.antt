-- As many events are behind no more as there are behind, and not more than asked for.
use Rattle.std.proofs.Common.{◌≡◌, ◌+◌, ◌-◌, ◌<◌, ◌∙◌, sym, ap, subst, arith}
use Rattle.tx_step.specs.Traces.{Traced, moved_to, back_from}
use Rattle.tx_step.proofs.trace.Trace.back.Goals as goal

pub loop-done-init : goal.loop-done-init
loop-done-init c =
    let same : c.args.self.now.position ≡ c.args.self.now.position - 0 = omega arith in
    ap (λ p. moved_to p c.args.self.now) same

pub one_back-requires : goal.one_back-requires
one_back-requires c =
    let inside : 0 < c.args.self.now.position - c.loop-done._done = omega arith in
    subst (λ (t : Traced). 0 < t.position) (sym c.loop-done.invariant) inside

pub loop-done-preserved : goal.loop-done-preserved
loop-done-preserved c =
    let more : c.args.self.now.position - c.loop-done._done - 1 ≡ c.args.self.now.position - (c.loop-done._done + 1) =
    omega arith in
    c.one_back.ensures ∙ ap (λ (t : Traced). back_from 1 t) c.loop-done.invariant
    ∙ ap (λ p. moved_to p c.args.self.now) more

pub returns : goal.returns
returns c =
    let there : c.args.self.now.position - c.loop-done._done ≡ c.args.self.now.position - c.args.n = omega arith in
    c.loop-done.invariant ∙ ap (λ p. moved_to p c.args.self.now) there
