-- What the outermost begin leaves.
use Rattle.std.proofs.Common.{◌≡◌, ap, sym, ◌∙◌, ◌+◌, Some, true, false, refl}
use Rattle.z_instr.specs.Layout.{form_length}
use Rattle.z_instr.specs.Table.{Entry}
use Rattle.z_regs.specs.Cpu.{cpu_of}
use Rattle.tx_control.specs.declared.begins.Begin.{Begin}
use Rattle.tx_progress.specs.Progress.{begins_constrained}
use Rattle.tx_attempt.specs.Tracked.{Tracked}
use Rattle.tx_attempt.specs.contracts.attempt.Attempt.{the_view}
use Rattle.tx_attempt.proofs.Begun.{begun-is}
use Rattle.tx_attempt.proofs.attempt.Attempt.begin.Goals as goal

pub returns-then-level-clause-value : goal.returns-then-level-clause-value
returns-then-level-clause-value c x =
    let constrained : begins_constrained c.args.instr.now ≡ true =
    sym (ap (λ (b : Begin). b.constrained) c.opened-level.ensures) ∙ c.if-level.true in
    begun-is (the_view c.self.inside) _ c.args.instr.now x (cpu_of c.args.before.now) c.opened-level.result _ _
    true (c.self.invariant.rests (ap (λ (t : Tracked). t.count) c.self.view_is ∙ c.requires.rests)) c.requires.begins c.enter.ensures c.opened-level.ensures constrained
    (ap Some c.begin.ensures) refl

pub returns-else-level-clause-value : goal.returns-else-level-clause-value
returns-else-level-clause-value c x =
    let constrained : begins_constrained c.args.instr.now ≡ false =
    sym (ap (λ (b : Begin). b.constrained) c.opened-level.ensures) ∙ c.if-level.false in
    let length = c.from.ensures ∙ c.length_in.ensures
    ∙ ap (λ (e : Entry). form_length e.form) c.line.ensures.row in
    begun-is (the_view c.self.inside) _ c.args.instr.now x (cpu_of c.args.before.now) c.opened-level.result _ _
    false (c.self.invariant.rests (ap (λ (t : Tracked). t.count) c.self.view_is ∙ c.requires.rests)) c.requires.begins c.enter.ensures c.opened-level.ensures constrained
    refl (ap (λ n. c.args.before.now.address + n) length)
