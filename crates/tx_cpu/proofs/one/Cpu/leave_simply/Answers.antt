-- An instruction that is simply completed leaves nothing to do.
use Rattle.std.proofs.Common.{◌≡◌, [], refl, ap, sym, subst, ◌∙◌}
use Rattle.std.specs.Prelude.{nat_lt, false}
use Rattle.z_effect.specs.Interrupted.{cpu_outside}
use Rattle.z_effect.specs.One.{length_of}
use Rattle.tx_progress.specs.declared.done.Done.TheVariants as done
use Rattle.tx_attempt.specs.declared.performing.Ended.{Ended}
use Rattle.tx_attempt.specs.Performed.{IsLeftOutside, outcome_from, waiting_outside}
use Rattle.tx_cpu.specs.Parts.{Parts}
use Rattle.tx_cpu.specs.contracts.one.Cpu.{the_view}
use Rattle.tx_cpu.proofs.Completing.{outside-is}
use Rattle.tx_progress.proofs.Parts.{not_live}
use Rattle.tx_cpu.proofs.one.Cpu.leave_simply.Goals as goal

pub returns-then-is_simple : goal.returns-then-is_simple
returns-then-is_simple c x o need before after left waits =
    let p = the_view c.self.inside in
    let i = c.args.instr.now in
    let live : nat_lt 0 p.attempt.count ≡ false =
    ap (λ (q : Parts). nat_lt 0 q.attempt.count) c.self.view_is ∙ c.requires.rests in
    let there : IsLeftOutside need x p.image before after c.args.ended o =
    subst (λ (q : Parts). IsLeftOutside need x q.image before after c.args.ended o) (sym c.self.view_is) left in
    let completed = sym (c.is_simple.ensures.completed c.if-is_simple.true) in
    rw (← c.self.view_is)
    (outside-is (record p { image = x }) i need o c.args.ended p.image p.image p.waiting before after done.Stepped 0
    (length_of i) live (c.is_sound.ensures.rests (not_live _ live)) there refl
    (ap (λ (e : Ended). cpu_outside (length_of i) p.image (outcome_from e p.image [])) completed)
    (ap (λ (e : Ended). waiting_outside p.image.prefix (length_of i) e p.waiting) completed) waits
    (sym (c.is_simple.ensures.told c.if-is_simple.true)))
