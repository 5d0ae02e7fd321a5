use Rattle.std.proofs.Common.{◌∙◌, sym}
use Rattle.z_regs.specs.Cpu.{cpu_of}
use Rattle.z_setup.specs.Machine.{has_prefix}
use Rattle.z_setup.proofs.Lists.{any_here, any_over, any_map}
use Rattle.z_setup.proofs.second.is_given.Goals as goal

pub returns-then-is_same_prefix : goal.returns-then-is_same_prefix
returns-then-is_same_prefix c =
    sym (any_map (has_prefix c.args.prefix) cpu_of c.args.cpus.now
    ∙ (sym c.loop-cpu.invariant ∙ any_here (λ x. has_prefix c.args.prefix (cpu_of x)) c.args.cpus.now
    c.loop-cpu.cpu-index c.cpu-item.result c.loop-cpu-test.true c.cpu-item.is
    (sym c.is_same_prefix.ensures ∙ c.if-is_same_prefix.true)))

pub returns : goal.returns
returns c =
    sym (any_map (has_prefix c.args.prefix) cpu_of c.args.cpus.now
    ∙ (sym c.loop-cpu.invariant ∙ any_over (λ x. has_prefix c.args.prefix (cpu_of x)) c.args.cpus.now
    c.loop-cpu.cpu-index c.loop-cpu-test.false))
