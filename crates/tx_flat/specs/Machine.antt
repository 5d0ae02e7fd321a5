-- What is kept of all CPUs and of storage, as plain data, and as a flat state.
use Rattle.std.specs.Prelude.{◌≡◌, ◌≤◌, ℕ, List, length, get_or, map, Option, Some, None, Result, Ok, Err}
use Rattle.std.specs.FinSet.{FinSet, items}
use Rattle.std.specs.Ordering.{nat_cmp}
use Rattle.z_regs.specs.Cpu.{Cpu, cpu_of}
use Rattle.z_regs.specs.declared.waiting.Waiting.{Waiting}
use Rattle.tx_journal.specs.declared.entries.Entry.{Entry}
use Rattle.tx_journal.specs.declared.entries.Entry.TheVariants.{Step, Commit, Abort, Tdb, Interrupt}
use Rattle.tx_serial.specs.Apply.{apply, interruption_code}
use Rattle.tx_serial.specs.Flat.{FlatState, Pending}
use Rattle.tx_serial.specs.History.{no_cpu}
use Rattle.tx_serial.specs.Text.{IsKept}
use Rattle.tx_private.specs.Bytes.{function_of}
use Rattle.tx_flat.specs.declared.slot.ApplyFault.{ApplyFault}
use Rattle.tx_flat.specs.declared.slot.ApplyFault.TheVariants.{Memory, Misfit}
use Rattle.tx_flat.specs.declared.slot.Slot.{Slot}
use Rattle.tx_flat.specs.Slots.{pending_of}

-- ---- the data

pub record SlotParts : Type 0 where
  pub cpu : Cpu
  pub pending : Option Pending
  pub waiting : Option Waiting

abbrev pub slot_parts : Slot → SlotParts
slot_parts s = record { cpu = cpu_of s.image; pending = pending_of s.pending; waiting = s.waiting }

-- the bytes of storage, the numbers of its text pages, and what is kept of one CPU after the other
pub record Parts : Type 0 where
  pub bytes : List ℕ
  pub pages : List ℕ
  pub slots : List SlotParts

abbrev pub parts_of : List ℕ → FinSet nat_cmp → List Slot → Parts
parts_of bytes guard slots = record { bytes = bytes; pages = items guard; slots = map slot_parts slots }

-- ---- the state

-- of a CPU for which nothing is pending and nothing waits
abbrev pub fresh : Cpu → SlotParts
fresh c = record { cpu = c; pending = None; waiting = None }

-- and of one that is not there
abbrev pub slot_at : List SlotParts → ℕ → SlotParts
slot_at slots i = get_or slots i (fresh no_cpu)

abbrev pub state_of : Parts → FlatState
state_of m = record {
  storage = function_of m.bytes;
  text = m.pages;
  cpus = λ i. (slot_at m.slots i).cpu;
  pending = λ i. (slot_at m.slots i).pending;
  waiting = λ i. (slot_at m.slots i).waiting;
}

-- what has to hold that no text ever changes, and there are at most sixteen CPUs
pub record IsSound (m : Parts) : Type 0 where
  pub kept : IsKept (state_of m)
  pub few : length m.slots ≤ 16

-- the code of an interruption that waits on a CPU
abbrev pub code_waiting : Cpu → Option Waiting → Option ℕ
code_waiting c None = None
code_waiting c (Some w) = Some (interruption_code c.state)

-- ---- entries

-- an entry as one of another CPU
abbrev pub of_cpu : Entry → ℕ → Entry
of_cpu (Step i) k = Step k
of_cpu (Commit i n) k = Commit k n
of_cpu (Abort i n why) k = Abort k n why
of_cpu (Tdb i) k = Tdb k
of_cpu (Interrupt i) k = Interrupt k

-- an entry is applied: where it fits, the new state is what it leaves; where it does not, and for want of
-- memory, nothing has changed
abbrev pub Applies : Entry → Parts → Parts → Result (Unit {0}) ApplyFault → Type 0
Applies e old new (Ok u) = apply (state_of old) e ≡ Some (state_of new)
Applies e old new (Err Misfit) = (apply (state_of old) e ≡ None) × (new ≡ old)
Applies e old new (Err Memory) = new ≡ old
