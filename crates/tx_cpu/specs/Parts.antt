-- One CPU as data, and what is kept of it by that.
use Rattle.std.specs.Prelude.{◌≡◌, ℕ, ◌+◌, ◌≤◌, if◌then◌else◌, nat_lt, List, Option, Some}
use Rattle.z_regs.specs.Cpu.{Cpu}
use Rattle.z_regs.specs.Prefix.{storage_size}
use Rattle.z_regs.specs.declared.waiting.Waiting.{Waiting}
use Rattle.tx_serial.specs.Flat.{Pending}
use Rattle.tx_progress.specs.Local.{Local, Beside}
use Rattle.tx_progress.specs.Progress.{is_live}
use Rattle.tx_attempt.specs.Storages.{storage_of}
use Rattle.tx_attempt.specs.Tracked as tracked
use Rattle.tx_attempt.specs.Tracked.{Tracked, progress}

-- the CPU as it is now, as it was before the outermost begin while an attempt is live, the attempt, the block
-- that is pending, and the interruption that waits
pub record Parts : Type 0 where
  pub image : Cpu
  pub saved : Cpu
  pub attempt : Tracked
  pub pending : Option Pending
  pub waiting : Option Waiting

-- what is kept of the CPU
abbrev pub local_of : Parts → Local
local_of p = record {
  cpu = if nat_lt 0 p.attempt.count then p.saved else p.image;
  attempt = progress p.attempt p.image;
  pending = p.pending;
  waiting = p.waiting;
}

-- what is kept of a CPU that goes on as another one: in its attempt, where one is live, and else as that one is outside
abbrev pub goes_on_as : Local → Local → Local
goes_on_as other own = record own {
  cpu = if is_live other.attempt then own.cpu else other.cpu;
  attempt =
      if is_live other.attempt then tracked.goes_on_as other.attempt own.attempt else other.attempt;
}

-- a CPU and storage
abbrev pub beside : Parts → List ℕ → Beside
beside p bytes = record { local = local_of p; storage = storage_of bytes }

-- a pending block lies in storage
abbrev pub IsInside : Option Pending → Type 0
IsInside pending = (b : Pending) → pending ≡ Some b → b.address + 256 ≤ storage_size
