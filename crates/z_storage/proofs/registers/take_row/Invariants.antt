use Rattle.std.proofs.Common.{◌≡◌, ◌*◌}
use Rattle.z_arith.specs.declared.Width.TheVariants.{Double}
use Rattle.z_regs.specs.Cpu.{cpu_of}
use Rattle.z_effect.specs.StorageEffect.{with_items}
use Rattle.z_effect.specs.After.{range_at}
use Rattle.z_storage.proofs.registers.take_row.Given as goal

abbrev pub invariant-loop-k : goal.invariant-loop-k
invariant-loop-k l =
    cpu_of l.image ≡ with_items l.k Double l.first (range_at l.from 0 (l.count * 8)) (cpu_of l.initial.image)
