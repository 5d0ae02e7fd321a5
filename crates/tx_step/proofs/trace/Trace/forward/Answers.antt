-- As many events more are behind as there are ahead, and not more than asked for.
use Rattle.std.proofs.Common.{◌≡◌, ◌+◌, ◌<◌, ◌∙◌, sym, ap, subst, length, arith}
use Rattle.std.specs.Prelude.{min}
use Rattle.tx_step.specs.Traces.{Traced, moved_to}
use Rattle.tx_step.proofs.trace.Trace.forward.Goals as goal

pub loop-done-init : goal.loop-done-init
loop-done-init c =
    let same : c.args.self.now.position ≡ c.args.self.now.position + 0 = omega arith in
    ap (λ p. moved_to p c.args.self.now) same

pub one_forward-requires : goal.one_forward-requires
one_forward-requires c =
    let inside : c.args.self.now.position + c.loop-done._done < length c.args.self.now.events = omega arith in
    subst (λ (t : Traced). t.position < length t.events) (sym c.loop-done.invariant) inside

pub loop-done-preserved : goal.loop-done-preserved
loop-done-preserved c =
    let more : c.args.self.now.position + c.loop-done._done + 1 ≡ c.args.self.now.position + (c.loop-done._done + 1) =
    omega arith in
    c.one_forward.ensures ∙ ap (λ (t : Traced). moved_to (t.position + 1) t) c.loop-done.invariant
    ∙ ap (λ p. moved_to p c.args.self.now) more

pub returns : goal.returns
returns c =
    let there : c.args.self.now.position + c.loop-done._done
    ≡ min (c.args.self.now.position + c.args.n) (length c.args.self.now.events) = omega arith in
    c.loop-done.invariant ∙ ap (λ p. moved_to p c.args.self.now) there
