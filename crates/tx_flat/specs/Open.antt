-- Private runs that are open.
use Rattle.std.specs.Prelude.{◌≡◌, ℕ, length}
use Rattle.z_regs.specs.Cpu.{Cpu}
use Rattle.tx_serial.specs.Attempt.{Run, Open}

-- the run is open, leaves this CPU, and has so many open begins
pub record IsOpen (p : Run) (c : Cpu) (depth : ℕ) : Type 0 where
  pub mark : p.mark ≡ Open
  pub cpu : p.cpu ≡ c
  pub deep : length p.nest ≡ depth
