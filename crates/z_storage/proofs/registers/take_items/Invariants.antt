use Rattle.std.proofs.Common.{◌≡◌, ◌*◌}
use Rattle.z_instr.specs.Operands.{bytes_of}
use Rattle.z_regs.specs.Cpu.{cpu_of}
use Rattle.z_effect.specs.StorageEffect.{with_items}
use Rattle.z_instr.specs.Kinds.{item}
use Rattle.z_effect.specs.After.{range_at}
use Rattle.z_storage.proofs.registers.take_items.Given as goal

abbrev pub invariant-loop-k : goal.invariant-loop-k
invariant-loop-k l =
    cpu_of l.image ≡ with_items l.k l.w l.first (range_at l.from 0
    (l.count * bytes_of (item l.w))) (cpu_of l.initial.image)
