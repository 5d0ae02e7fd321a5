-- What an instruction outside transactions leaves.
use Rattle.std.specs.Prelude.{◌≡◌, ℕ, List, Option, None, Result, Ok, Err}
use Rattle.z_regs.specs.Cpu.{Cpu, cpu_of}
use Rattle.z_regs.specs.declared.waiting.Waiting.{Waiting}
use Rattle.z_instr.specs.declared.instr.Instr.{Instr}
use Rattle.z_effect.specs.After.{exception}
use Rattle.z_effect.specs.Interrupted.{with_interruption, interrupted_by}
use Rattle.tx_control.specs.Codes.{fixed_point_overflow_code, fixed_point_divide_code}
use Rattle.tx_control.specs.declared.exceptions.Exception.{Exception}
use Rattle.tx_serial.specs.Apply.{with_outcome}
use Rattle.tx_serial.specs.Attempt.{at_rest}
use Rattle.tx_serial.specs.Fate.{operands}
use Rattle.tx_serial.specs.Flat.{FlatState}
use Rattle.tx_serial.specs.Remains.{waiting_with}
use Rattle.tx_serial.specs.Run.{outcome_of}
use Rattle.tx_private.specs.declared.execution.Completion.{Completion}
use Rattle.tx_private.specs.declared.execution.Completion.TheVariants.{Completed, Overflowed, Divides, Aborts}
use Rattle.tx_flat.specs.declared.slot.ApplyFault.{ApplyFault}
use Rattle.tx_flat.specs.declared.slot.ApplyFault.TheVariants.{Memory, Misfit}
use Rattle.tx_flat.specs.declared.slot.Slot.{Slot}
use Rattle.tx_flat.specs.Slots.{Holds, holding}

-- an exception has interrupted the program
pub record HasStopped (e : Exception) (old new : Slot) : Type 0 where
  pub cpu : cpu_of new.image ≡ interrupted_by e (cpu_of old.image)
  pub pending : new.pending ≡ old.pending
  pub waiting : new.waiting ≡ waiting_with old.image.prefix e.length None

-- the CPU behind an instruction of n bytes that has left it so
abbrev pub cpu_ended : ℕ → Completion → Cpu → Cpu
cpu_ended n Completed c = c
cpu_ended n Overflowed c = with_interruption fixed_point_overflow_code c
cpu_ended n Divides c = interrupted_by (exception fixed_point_divide_code n) c
cpu_ended n (Aborts code) c = c

-- and the interruption that waits then
abbrev pub waiting_ended : ℕ → Completion → Cpu → Option Waiting → Option Waiting
waiting_ended n Completed c before = before
waiting_ended n Overflowed c before = waiting_with c.prefix n None
waiting_ended n Divides c before = waiting_with c.prefix n None
waiting_ended n (Aborts code) c before = before

pub record HasEnded (n : ℕ) (done : Completion) (after : Cpu) (old new : Slot) : Type 0 where
  pub cpu : cpu_of new.image ≡ cpu_ended n done after
  pub pending : new.pending ≡ old.pending
  pub waiting : new.waiting ≡ waiting_ended n done after old.waiting

-- an instruction that goes is performed, on every state that has this storage and slot; or there was no
-- memory, and nothing has changed
abbrev pub IsPerformed : Instr → List ℕ → List ℕ → Slot → Slot → Result (Unit {0}) ApplyFault → Type 0
IsPerformed i s t old new (Ok u) =
    (f : FlatState) (k : ℕ) (text : List ℕ) → Holds f k s text old
    → with_outcome f k i (operands i (f.cpus k))
    (outcome_of i (operands i (f.cpus k)) (at_rest f.storage (f.cpus k)))
    ≡ holding f k t new
IsPerformed i s t old new (Err Misfit) = ⊥
IsPerformed i s t old new (Err Memory) = (t ≡ s) × (new ≡ old)
