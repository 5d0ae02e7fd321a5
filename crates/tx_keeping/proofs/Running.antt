-- No instruction but a service call leaves a CPU other than running.
use Rattle.std.proofs.Common.{◌≡◌, ℕ, true, false, List, sym, ◌∙◌, Option}
use Rattle.std.proofs.lemmas.Bool.{true≢false}
use Rattle.z_regs.specs.Cpu.{Cpu}
use Rattle.z_regs.specs.declared.image.RunState.{RunState}
use Rattle.z_instr.specs.declared.instr.Instr.{Instr}
use Rattle.z_instr.specs.Table.{kind_at}
use Rattle.z_effect.specs.After.{cpu_after}
use Rattle.z_effect.specs.Facts.{is_service}
use Rattle.z_effect.specs.One.{one}
use Rattle.z_effect.specs.Outcome.{Outcome}
use Rattle.z_effect.proofs.Lasting.{lasts}
use Rattle.tx_serial.specs.Apply.{is_running}

-- running, whatever the prefix
abbrev pub Runs : RunState → Option ℕ → Type 0
Runs state prefix = is_running state ≡ true

-- a CPU that runs goes on running
abbrev pub Stays : Cpu → Cpu → Type 0
Stays c new = is_running c.state ≡ true → is_running new.state ≡ true

abbrev pub Keeps : Outcome → Cpu → Type 0
Keeps o c = Stays c (cpu_after c o)

pub keeps_running : (i : Instr) (c : Cpu) (depth : ℕ) (bytes : List ℕ)
    → is_service (kind_at i.op.number) ≡ false
    → Stays c (cpu_after c (one i c depth bytes))
keeps_running i c depth bytes plain =
    lasts Runs i c depth bytes (λ service h. absurd (true≢false (sym service ∙ plain)))
