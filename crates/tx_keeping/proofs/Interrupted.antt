-- No instruction, and no run, leaves a CPU interrupted that was not.
use Rattle.std.proofs.Common.{◌≡◌, ℕ, Bool, true, false, List, refl, Option}
use Rattle.z_regs.specs.Cpu.{Cpu}
use Rattle.z_regs.specs.declared.image.RunState.{RunState}
use Rattle.z_regs.specs.declared.image.RunState.TheVariants.{Running, Halted, Interrupted}
use Rattle.z_instr.specs.declared.instr.Instr.{Instr}
use Rattle.z_effect.specs.After.{cpu_after}
use Rattle.z_effect.specs.One.{one}
use Rattle.z_effect.proofs.Lasting.{lasts}
use Rattle.tx_serial.specs.Flat.{FlatState}
use Rattle.tx_serial.specs.Run.{run}
use Rattle.tx_serial.proofs.Lasting.{run_lasts}

abbrev pub is_interrupted : RunState → Bool
is_interrupted (Interrupted code) = true
is_interrupted Running = false
is_interrupted Halted = false

-- not interrupted, whatever the prefix
abbrev IsQuiet : RunState → Option ℕ → Type 0
IsQuiet state prefix = is_interrupted state ≡ false

abbrev pub Stays : Cpu → Cpu → Type 0
Stays c new = is_interrupted c.state ≡ false → is_interrupted new.state ≡ false

-- a service call leaves it halted
pub keeps_running : (i : Instr) (c : Cpu) (depth : ℕ) (bytes : List ℕ) →
    Stays c (cpu_after c (one i c depth bytes))
keeps_running i c depth bytes = lasts IsQuiet i c depth bytes (λ service h. refl)

-- and so any number of instructions
pub run_stays : (f : FlatState) (i k : ℕ) → Stays (f.cpus i) (run f i k).cpu
run_stays = run_lasts IsQuiet (λ text p i ranges follows goes. keeps_running i p.cpu _ _)
