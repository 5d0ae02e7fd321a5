use Rattle.std.proofs.Common.{◌≡◌, length}
use Rattle.z_regs.specs.Cpu.{cpu_of}
use Rattle.z_effect.specs.StorageEffect.{items}
use Rattle.z_effect.specs.After.{written}
use Rattle.z_storage.proofs.registers.put_items.Given as goal

abbrev pub invariant-loop-k : goal.invariant-loop-k
invariant-loop-k l =
    record {
      so_far : l.into ≡ written l.initial.into 0 (items l.k l.w l.first (cpu_of l.image));
      size : length l.into ≡ length l.initial.into;
    }
