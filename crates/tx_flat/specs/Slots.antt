-- What is kept of each CPU, as a flat state.
use Rattle.std.specs.Prelude.{◌≡◌, ℕ, List, Bool, true, false, ◌&&◌, is_none, Option, Some, None, Result, Ok}
use Rattle.std.specs.Prelude.{Err}
use Rattle.z_regs.specs.Cpu.{cpu_of}
use Rattle.z_regs.specs.declared.image.RunState.{RunState}
use Rattle.tx_serial.specs.Apply.{is_running}
use Rattle.tx_serial.specs.Attempt as run
use Rattle.tx_serial.specs.Flat.{FlatState, Pending, at_put}
use Rattle.tx_private.specs.Bytes.{function_of}
use Rattle.tx_flat.specs.declared.slot.Slot.{Slot}
use Rattle.tx_flat.specs.declared.slot.Block.{Block}
use Rattle.tx_flat.specs.declared.slot.ApplyFault.{ApplyFault}
use Rattle.tx_flat.specs.declared.slot.ApplyFault.TheVariants.{Memory, Misfit}

abbrev pub pending_of : Option Block → Option Pending
pending_of None = None
pending_of (Some b) = Some record { address = b.address; bytes = b.bytes }

-- a state has this storage and this text, and of a CPU what the slot holds
pub record Holds (f : FlatState) (i : ℕ) (bytes pages : List ℕ) (s : Slot) : Type 0 where
  pub storage : f.storage ≡ function_of bytes
  pub text : f.text ≡ pages
  pub cpu : f.cpus i ≡ cpu_of s.image
  pub pending : f.pending i ≡ pending_of s.pending
  pub waiting : f.waiting i ≡ s.waiting

-- a state with other storage and another slot of a CPU
abbrev pub holding : FlatState → ℕ → List ℕ → Slot → FlatState
holding f i bytes s = record f {
  storage = function_of bytes;
  cpus = at_put f.cpus i (cpu_of s.image);
  pending = at_put f.pending i (pending_of s.pending);
  waiting = at_put f.waiting i s.waiting;
}

-- an entry of this CPU is applied: where it fits, storage and the slot are those of the new state; where it
-- does
-- not, and for want of memory, nothing has changed
abbrev pub IsApplied : (FlatState → ℕ → Option FlatState) → List ℕ → List ℕ → List ℕ → Slot → Slot
    → Result (Unit {0}) ApplyFault → Type 0
IsApplied applied text s t old new (Ok u) =
    (f : FlatState) (i : ℕ) → Holds f i s text old → applied f i ≡ Some (holding f i t new)
IsApplied applied text s t old new (Err Misfit) =
    ((f : FlatState) (i : ℕ) → Holds f i s text old → applied f i ≡ None) × (t ≡ s) × (new ≡ old)
IsApplied applied text s t old new (Err Memory) = (t ≡ s) × (new ≡ old)

-- a CPU that runs, and for which nothing is pending
abbrev pub acts : RunState → Option Pending → Bool
acts state pending = is_running state && is_none pending

abbrev pub commits : run.Mark → Bool
commits run.Open = false
commits run.Committed = true
commits run.Overflowed = false
commits run.Missing = false
