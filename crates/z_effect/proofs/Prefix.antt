-- No instruction changes the prefix.
use Rattle.std.proofs.Common.{◌≡◌, ℕ, List, refl}
use Rattle.z_instr.specs.declared.instr.Instr.{Instr}
use Rattle.z_regs.specs.Cpu.{Cpu}
use Rattle.z_effect.specs.After.{cpu_after}
use Rattle.z_effect.specs.One.{one}
use Rattle.z_effect.proofs.Lasting.{lasts}

-- it is what it was, behind each
pub keeps_prefix : (i : Instr) (c : Cpu) (depth : ℕ) (bytes : List ℕ) →
    (cpu_after c (one i c depth bytes)).prefix ≡ c.prefix
keeps_prefix i c depth bytes = lasts (λ state prefix. prefix ≡ c.prefix) i c depth bytes (λ service h. h) refl
