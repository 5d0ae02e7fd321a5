-- What the bytes at a CPU's address read as.
use Rattle.std.specs.Prelude.{◌≡◌, ℕ, List, Some, None, Result, Ok, Err}
use Rattle.z_instr.specs.declared.instr.Instr.{Instr}
use Rattle.z_regs.specs.Cpu.{Cpu}
use Rattle.z_regs.specs.Seen.{seen_by}
use Rattle.tx_control.specs.declared.exceptions.Exception.{Exception}
use Rattle.tx_serial.specs.Flat.{bytes_of}
use Rattle.tx_serial.specs.Attempt.{Run}
use Rattle.tx_serial.specs.Fate.{Excepts, fate, fate_after, fetch_refusal, instruction_at}

-- storage in the order of a CPU's real addresses is the copy of a run
abbrev pub IsCopy : List ℕ → Run → Type 0
IsCopy seen p = seen ≡ seen_by p.cpu.prefix (bytes_of p.copy)

-- of every run with this CPU and this copy
abbrev pub ReadsAs : List ℕ → List ℕ → Cpu → Result Instr Exception → Type 0
ReadsAs text seen c (Ok i) =
    (p : Run) → p.cpu ≡ c → IsCopy seen p → (fetch_refusal text p ≡ None) × (instruction_at p ≡ Some i)
ReadsAs text seen c (Err e) =
    (p : Run) → p.cpu ≡ c → IsCopy seen p → fate text p ≡ fate_after p.nest (Excepts e)
