-- The attempt is aborted.
use Rattle.std.proofs.Common.{◌≡◌, ℕ, List, ap, ◌∙◌}
use Rattle.std.specs.Prelude.{nat_lt, true}
use Rattle.z_regs.specs.Cpu.{cpu_of}
use Rattle.tx_control.specs.Nesting.{outermost_mask, outermost_block}
use Rattle.tx_control.specs.declared.begins.Begin.{Begin}
use Rattle.tx_abort.specs.Causes.{cause_of}
use Rattle.tx_abort.specs.Block.{block}
use Rattle.tx_abort.specs.Registers.{with_restored}
use Rattle.tx_serial.specs.Remains.{interrupted_after, pending_after, waiting_after}
use Rattle.tx_cpu.specs.Parts.{Parts}
use Rattle.tx_cpu.specs.contracts.one.Cpu.{the_view}
use Rattle.tx_cpu.proofs.Ends.{aborted-is}
use Rattle.tx_cpu.proofs.one.Cpu.abort.Goals as goal

pub returns-clause-value : goal.returns-clause-value
returns-clause-value g c =
    let p = the_view c.self.inside in
    let live : nat_lt 0 c.self.inside.attempt.count ≡ true =
    ap (λ (q : Parts). nat_lt 0 q.attempt.count) c.self.view_is ∙ c.requires.live in
    let nest : c.nest-nest.result.now ≡ c.self.inside.attempt.nest = c.nest-nest.ensures in
    let mask : c.mask-mask.result ≡ outermost_mask c.self.inside.attempt.nest =
    c.mask-mask.ensures ∙ ap outermost_mask nest in
    let told : c.block_of-block.result ≡ block c.args.why c.self.inside.attempt.nest
    c.self.inside.image.general c.args.at =
    c.block_of-block.ensures ∙ ap (λ (n : List Begin). block c.args.why n c.self.inside.image.general
    c.args.at)
    nest in
    let named = c.block.ensures ∙ ap outermost_block nest in
    rw (← c.self.view_is)
    (aborted-is p _ _ _ _ _ c.args.why c.args.at _ _ live c.abort.ensures.rests
    (c.leave.ensures
    ∙ (λ i. interrupted_after c.args.why
    (record (with_restored c.self.inside.saved.general (mask i) (cpu_of c.self.inside.image)) {
      address = c.resumes_at.ensures i;
      condition = (cause_of c.args.why).condition;
    })))
    (c.pending_after-self-inside.ensures ∙ (λ i. pending_after (named i) (told i)))
    (c.waiting_after-self-inside.ensures
    ∙ ap (λ (b : List ℕ). waiting_after c.self.inside.image.prefix b c.args.why) told)
    c.abort.ensures.bytes)
