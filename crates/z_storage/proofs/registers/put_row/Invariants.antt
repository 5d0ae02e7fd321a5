use Rattle.std.proofs.Common.{◌≡◌, length}
use Rattle.z_arith.specs.declared.Width.TheVariants.{Double}
use Rattle.z_regs.specs.Cpu.{cpu_of}
use Rattle.z_effect.specs.StorageEffect.{items}
use Rattle.z_effect.specs.After.{written}
use Rattle.z_storage.proofs.registers.put_row.Given as goal

abbrev pub invariant-loop-k : goal.invariant-loop-k
invariant-loop-k l =
    record {
      so_far : l.into ≡ written l.initial.into 0 (items l.k Double l.first (cpu_of l.image));
      size : length l.into ≡ length l.initial.into;
    }
