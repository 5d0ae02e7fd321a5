-- The program waits after an assist alone.
use Rattle.std.proofs.Common.{Bool, sym, ap, ◌∙◌}
use Rattle.std.specs.Prelude.{if◌then◌else◌}
use Rattle.z_regs.specs.Cpu.{cpu_of}
use Rattle.z_instr.specs.Roles.{is_assist}
use Rattle.z_instr.specs.Table.{kind_at}
use Rattle.z_effect.specs.TransactionEffect.{delay_of}
use Rattle.tx_cpu.proofs.outside.delay_after.Goals as goal

pub returns-then-is_assist : goal.returns-then-is_assist
unfolding kind_at
returns-then-is_assist c =
    c.delay.ensures
    ∙ ap (λ (b : Bool). if b then delay_of c.args.instr.now (cpu_of c.args.image.now) else 0)
    (sym c.if-is_assist.true ∙ c.is_assist.ensures ∙ ap is_assist c.requires)

pub returns-else-is_assist : goal.returns-else-is_assist
unfolding kind_at
returns-else-is_assist c =
    ap (λ (b : Bool). if b then delay_of c.args.instr.now (cpu_of c.args.image.now) else 0)
    (sym c.if-is_assist.false ∙ c.is_assist.ensures ∙ ap is_assist c.requires)
